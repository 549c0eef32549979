-- `host::pamiqsun_route` meets its contract.
use Rattle.reader.specs.Reading.{route}
use Rattle.host.specs.Ways.{words_read, words_refused}
use Rattle.host.proofs.pamiqsun_route.Goals as goal

pub returns-in-Read : goal.returns-in-Read
returns-in-Read c =
    words_read route _ _ c.read-q.ensures _ c.route_in-p.ensures c.in-Read.is

pub returns-in-Refused : goal.returns-in-Refused
returns-in-Refused c =
    words_refused route _ _ c.read-q.ensures _ c.route_in-p.ensures _ _ c.in-Refused.is
