use mathlib.Core.Path.{ap, sym}
use Rattle.scan.specs.Grammar.{is_in}
use Rattle.scan.specs.declared.Class.{Class}
use Rattle.scan.proofs.is_in.Goals as goal

pub returns-in-Letter : goal.returns-in-Letter
returns-in-Letter c = sym (ap (λ (k : Class). is_in k c.args.b) c.in-Letter.is)

pub returns-in-Digit : goal.returns-in-Digit
returns-in-Digit c = sym (ap (λ (k : Class). is_in k c.args.b) c.in-Digit.is)

pub returns-in-Octal : goal.returns-in-Octal
returns-in-Octal c = sym (ap (λ (k : Class). is_in k c.args.b) c.in-Octal.is)

pub returns-in-Alnum : goal.returns-in-Alnum
returns-in-Alnum c = sym (ap (λ (k : Class). is_in k c.args.b) c.in-Alnum.is)

pub returns-in-Word : goal.returns-in-Word
returns-in-Word c = sym (ap (λ (k : Class). is_in k c.args.b) c.in-Word.is)

pub returns-in-Byte : goal.returns-in-Byte
returns-in-Byte c = sym (ap (λ (k : Class). is_in k c.args.b) c.in-Byte.is)

pub returns-in-Range : goal.returns-in-Range
returns-in-Range c = sym (ap (λ (k : Class). is_in k c.args.b) c.in-Range.is)

pub returns-in-Two : goal.returns-in-Two
returns-in-Two c = sym (ap (λ (k : Class). is_in k c.args.b) c.in-Two.is)

pub returns-in-Of : goal.returns-in-Of
returns-in-Of c = sym (ap (λ (k : Class). is_in k c.args.b) c.in-Of.is)
