-- `host::pamiqsun_other` meets its contract.
use Rattle.reader.specs.Reading.{other}
use Rattle.host.specs.Ways.{words_read, words_refused}
use Rattle.host.proofs.pamiqsun_other.Goals as goal

pub returns-in-Read : goal.returns-in-Read
returns-in-Read c =
    words_read other _ _ c.read-q.ensures _ c.other_in-p.ensures c.in-Read.is

pub returns-in-Refused : goal.returns-in-Refused
returns-in-Refused c =
    words_refused other _ _ c.read-q.ensures _ c.other_in-p.ensures _ _ c.in-Refused.is
