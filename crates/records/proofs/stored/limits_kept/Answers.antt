use Rattle.std.proofs.Common.{ℕ, sym, subst, arith}
use Rattle.std.proofs.lemmas.Bool.{both_ways}
use Rattle.records.specs.Stored.{FlagsStored}
use Rattle.records.proofs.Limits.{limits_from, order_flags}
use Rattle.records.proofs.stored.limits_kept.Goals as goal

pub returns-then-flags_stored : goal.returns-then-flags_stored
returns-then-flags_stored g c =
    let t = g.K.Kind.time in
    let P : ℕ → Type 0 = λ n. FlagsStored c.args.r.settings.now 0 n in (
      (λ e. limits_from t _ _ _ _ (omega arith) (omega arith) (omega arith) (omega (arith, c.count_orders-orders.ensures))
          (c.tracks_stored.ensures.0 c.if-not-tracks_stored.false)
          (c.runs_stored.ensures.0 c.if-not-runs_stored.false)
          (c.connections_stored.ensures.0 c.if-not-connections_stored.false)
          (subst P c.count_orders-orders.ensures (c.flags_stored.ensures.0 c.if-flags_stored.true))
          (c.flags_stored-then-flags_stored.ensures.0 e)),
      λ s. c.flags_stored-then-flags_stored.ensures.1 (record { each = s.links }),
    )

pub returns-else-flags_stored : goal.returns-else-flags_stored
returns-else-flags_stored g c =
    let P : ℕ → Type 0 = λ n. FlagsStored c.args.r.settings.now 0 n in
    ((λ e. absurd (both_ways _ c.if-flags_stored.false e)), λ s. c.flags_stored.ensures.1 (subst P (sym c.count_orders-orders.ensures) (order_flags g.K.Kind.time _ _ _ _ s)))
