use Rattle.reader.proofs.blank.Goals as goal

pub returns : goal.returns
returns c = rw c.no_parts.ensures
