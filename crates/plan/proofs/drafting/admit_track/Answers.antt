use Rattle.std.proofs.Common.{ap, ◌∙◌}
use Rattle.records.specs.Lent.{Lists, register_lent, lists_in}
use Rattle.records.specs.Register.{Register, register_of}
use Rattle.rules.specs.Rows.{draft_rows, track_rows}
use Rattle.plan.specs.States.{memory}
use Rattle.records.specs.Entered.{register_in}
use Rattle.plan.proofs.Entering.{track_room}
use Rattle.plan.proofs.Told.{left_front, told, told_behind}
use Rattle.plan.proofs.drafting.admit_track.Goals as goal

pub returns-in_err-e-clause-rows : goal.returns-in_err-e-clause-rows
returns-in_err-e-clause-rows g c =
    let t = g.K.Kind.time in
    let m = memory c.args.numbers (lists_in c.args.records.now) in
    left_front _ _ c.from_residual.ensures.1 (draft_rows t m) (track_rows t (register_of t m) c.args.track) c.in_err-e.ensures.rows

pub returns-clause-rows : goal.returns-clause-rows
returns-clause-rows g c =
    let t = g.K.Kind.time in
    let a = c.args in
    let m = memory a.numbers (lists_in a.records.now) in
    let ys = λ (R : Register g.row.K.Denot). track_rows t R a.track in
    let known = c.in_ok-e.ensures in
    told_behind ys _ _ (ap (register_lent t) c.records.ensures ∙ known.sound.0.register) (draft_rows t m) c.check_track.result known.rows c.check_track.ensures

pub returns-clause-room : goal.returns-clause-room
returns-clause-room g c =
    let t = g.K.Kind.time in
    let known = c.in_ok-e.ensures.sound in
    track_room t _ (register_in t c.in_ok-e.e) c.args.track c.args.numbers.tracks c.check_track.result known.1 known.0.tracks (told (λ (l : Lists g.row.K.Denot). track_rows t (register_lent t l) c.args.track) _ _ c.records.ensures c.check_track.result c.check_track.ensures)
