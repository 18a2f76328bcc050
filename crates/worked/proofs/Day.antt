-- The worked day.
use Rattle.worked.specs.Day.{WorkedDay}
use Rattle.worked.proofs.Opened.{opened}
use Rattle.worked.proofs.Controlled.{late, ringed, tried, held}
use Rattle.worked.proofs.Circle.{circled}
use Rattle.worked.proofs.Change.{change_facts}

pub worked_day_lem : WorkedDay
worked_day_lem = record { opened = opened; late = late; ring = ringed; tried = tried; held = held; circle = circled; changes = change_facts }
