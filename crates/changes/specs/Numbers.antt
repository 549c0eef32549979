-- A number of field 22 with its field and what may follow it: what the function of each number but 07 and 18 finds.
use Rattle.std.specs.Prelude.{◌≡◌, refl, true, false, List, ℕ, length}
use Rattle.std.proofs.Common.{◌∙◌, ap}
use Rattle.scan.specs.declared.Scan.{Scan}
use Rattle.scan.specs.Grammar.{G, alt}
use Rattle.scan.specs.Texts.{◌⨾◌, byte, opt, lit}
use Rattle.scan.specs.Scanner.{scan}
use Rattle.scan.specs.Tests.{good}
use Rattle.scan.specs.Picks.{sunder}
use Rattle.fields.specs.Names.{amended}
use Rattle.fields.specs.Fields.{g08, g09, g10, g13, g15, g16}
use Rattle.fields.specs.Found.{found08, found09, found10, found13, found15, found16, same08, same09, same10, same13, same15, same16}
use Rattle.changes.specs.declared.Found22.{Found22}
use Rattle.changes.specs.Changes.{from18, from16, from15, from13, from10, from09, from08}
use Rattle.changes.specs.Found.{found22, Past}
use Rattle.changes.specs.Ascend.{Adds, ascend, number_there, number_missed, is_amended, key08, key09, key10, key13, key15, key16, with08, with09, with10, with13, with15, with16, adds08, adds09, adds10, adds13, adds15, adds16}
use Rattle.changes.specs.Keys.{good_from18, good_from16, good_from15, good_from13, good_from10, good_from09, good_16, good_15, good_13, good_10, good_09, good_08, apart_16, apart_15, apart_13, apart_10, apart_09, apart_08}

-- what `whole` finds, which begins with a number or, with `later`, with a later one
pub record Number {F : Type 0} (key : List ℕ) (found : ℕ → List ℕ → Scan → F) (end : F → Scan) (put : F → Found22 → Found22) (later whole : G) : Type 0 where
  -- where the number is there: its field behind it, and what follows the field
  pub there : (s : List ℕ) (r a : Scan) (f : F) (t : Found22) → a ≡ scan (lit key) s r → a.ok ≡ true → f ≡ found 0 s a → t ≡ found22 (opt (byte 45 ⨾ later)) s (end f) → put f t ≡ found22 whole s r
  -- where it is not
  pub missed : (s : List ℕ) (r a : Scan) (o q : Found22) → a ≡ scan (lit key) s r → a.ok ≡ false → o ≡ found22 later s r → Past a o q → q ≡ found22 whole s r

-- the law of them all
module _ {F : Type 0} (key : List ℕ) (found : ℕ → List ℕ → Scan → F) (end : F → Scan) (put : F → Found22 → Found22) (g later : G) where
  number :
      ((s : List ℕ) (r : Scan) → found amended s r ≡ found 0 s r)
      → ((s : List ℕ) (r : Scan) → end (found amended s r) ≡ scan g s r)
      → ((s : List ℕ) (r : Scan) (f : F) → f ≡ found amended s (scan (lit key) s r) → Adds key g s r (put f))
      → good (lit key ⨾ g ⨾ opt (byte 45 ⨾ later)) ≡ true
      → good later ≡ true
      → sunder 2 (lit key ⨾ g ⨾ opt (byte 45 ⨾ later)) later ≡ true
      → length key ≡ 3
      → Number key found end put later (alt (lit key ⨾ g ⨾ opt (byte 45 ⨾ later)) later)
  number same ends adds good_one good_later apart three = record {
    there = λ s r a f t pa ok pf pt.
        let e = is_amended found same key s r a f pa pf in
        ascend key g (opt (byte 45 ⨾ later)) s r (put f) (adds s r f e) (end f) t (ap end e ∙ ends s (scan (lit key) s r)) pt
        ∙ number_there key (g ⨾ opt (byte 45 ⨾ later)) later s r a pa good_one good_later apart three ok;
    missed = λ s r a o q pa no po h. number_missed key (g ⨾ opt (byte 45 ⨾ later)) later s r a pa no o q po h;
  }

pub number16 : Number key16 found16 (λ f. f.end) with16 from18 from16
unfolding from16
number16 = number key16 found16 (λ f. f.end) with16 (g16 amended) from18 same16 (λ s r. refl) adds16 good_16 good_from18 apart_16 refl

pub number15 : Number key15 found15 (λ f. f.end) with15 from16 from15
unfolding from15
number15 = number key15 found15 (λ f. f.end) with15 (g15 amended) from16 same15 (λ s r. refl) adds15 good_15 good_from16 apart_15 refl

pub number13 : Number key13 found13 (λ f. f.end) with13 from15 from13
unfolding from13
number13 = number key13 found13 (λ f. f.end) with13 (g13 amended) from15 same13 (λ s r. refl) adds13 good_13 good_from15 apart_13 refl

pub number10 : Number key10 found10 (λ f. f.end) with10 from13 from10
unfolding from10
number10 = number key10 found10 (λ f. f.end) with10 (g10 amended) from13 same10 (λ s r. refl) adds10 good_10 good_from13 apart_10 refl

pub number09 : Number key09 found09 (λ f. f.end) with09 from10 from09
unfolding from09
number09 = number key09 found09 (λ f. f.end) with09 (g09 amended) from10 same09 (λ s r. refl) adds09 good_09 good_from10 apart_09 refl

pub number08 : Number key08 found08 (λ f. f.end) with08 from09 from08
unfolding from08
number08 = number key08 found08 (λ f. f.end) with08 (g08 amended) from09 same08 (λ s r. refl) adds08 good_08 good_from09 apart_08 refl
