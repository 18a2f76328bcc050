use Rattle.std.proofs.Common.{ap, ◌∙◌}
use Rattle.records.specs.Lent.{Lists, register_lent, lists_in}
use Rattle.records.specs.Register.{Register, register_of}
use Rattle.rules.specs.Rows.{draft_rows, connection_rows}
use Rattle.plan.specs.States.{memory}
use Rattle.records.specs.Entered.{register_in}
use Rattle.plan.proofs.Entering.{connection_room}
use Rattle.plan.proofs.Told.{left_front, told, told_behind}
use Rattle.plan.proofs.drafting.admit_connection.Goals as goal

pub returns-in_err-e-clause-rows : goal.returns-in_err-e-clause-rows
returns-in_err-e-clause-rows g c =
    let t = g.K.Kind.time in
    let a = c.args in
    let m = memory a.numbers (lists_in a.records.now) in
    left_front _ _ c.from_residual.ensures.1 (draft_rows t m) (connection_rows t (register_of t m) a.connection) c.in_err-e.ensures.rows

pub returns-clause-rows : goal.returns-clause-rows
returns-clause-rows g c =
    let t = g.K.Kind.time in
    let a = c.args in
    let m = memory a.numbers (lists_in a.records.now) in
    let ys = λ (R : Register g.row.K.Denot). connection_rows t R a.connection in
    let known = c.in_ok-e.ensures in
    told_behind ys _ _ (ap (register_lent t) c.records.ensures ∙ known.sound.0.register) (draft_rows t m) c.check_connection.result known.rows c.check_connection.ensures

pub returns-clause-room : goal.returns-clause-room
returns-clause-room g c =
    let t = g.K.Kind.time in
    let known = c.in_ok-e.ensures.sound in
    connection_room t _ (register_in t c.in_ok-e.e) c.args.connection c.args.numbers.connections c.check_connection.result known.1 known.0.connections (told (λ (l : Lists g.row.K.Denot). connection_rows t (register_lent t l) c.args.connection) _ _ c.records.ensures c.check_connection.result c.check_connection.ensures)
