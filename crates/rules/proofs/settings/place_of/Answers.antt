use Rattle.std.proofs.Common.{sym, subst, arith}
use Rattle.network.specs.Refusals.{Passed}
use Rattle.records.specs.Entered.{register_in}
use Rattle.rules.specs.Rows.{PlaceOf, switch_rows}
use Rattle.rules.specs.declared.switches.Switch.{Switch}
use Rattle.rules.specs.declared.switches.Switch.TheVariants as switch
use Rattle.rules.proofs.Rows.{setting_inside, order_passed}
use Rattle.rules.proofs.settings.place_of.Goals as goal

pub order_place-requires : goal.order_place-requires
order_place-requires g c =
    let t = g.K.Kind.time in
    let P : Switch → Type 0 = λ s. Passed (switch_rows t (register_in t c.args.e.now) s) in
    order_passed t (register_in t c.args.e.now) c.in-Order.i c.in-Order.j (subst P c.in-Order.is c.requires.passed)

pub returns-in-Order : goal.returns-in-Order
returns-in-Order g c =
    let t = g.K.Kind.time in
    let e = c.args.e.now in
    let P : Switch → Type 0 = λ s. PlaceOf t (register_in t e) s c.order_place.result in
    let Q : Switch → Type 0 = λ s. Passed (switch_rows t (register_in t e) s) in
    let a = setting_inside t (register_in t e) (switch.Order c.in-Order.i c.in-Order.j) e.limits.limits (subst Q c.in-Order.is c.requires.passed) in
    subst P (sym c.in-Order.is) (record { is = c.order_place.ensures; inside = omega (arith, c.order_place.ensures) })
