use Rattle.std.proofs.Common.{◌≡◌, ℕ, ◌-◌, List, length, sym, subst, arith}
use Rattle.std.proofs.lemmas.Slice.{take-put_mid}
use Rattle.network.specs.Rounds.{Turned}
use Rattle.network.proofs.Turned.{turned_is}
use Rattle.network.proofs.name_ring.Goals as goal

pub returns-clause-turned : goal.returns-clause-turned
returns-clause-turned g c =
    let t = g.K.Kind.time in
    let arcs = c.args.arcs.now in
    let path = c.args.path.now in
    let ring = c.args.ring.now in
    let n = length path in
    let xs = c.list_ends.new.ring in
    let ys = c.rotate_left.new.self in
    let long : length xs ≡ n = omega (arith, c.list_ends.auto.ring) in
    let long_ys : length ys ≡ n = omega (arith, c.rotate_left.ensures.len) in
    let turned = turned_is xs ys c.smallest-first.result c.smallest-first.ensures.0 c.rotate_left.ensures.len c.smallest-first.ensures.1 (λ k h. c.rotate_left.ensures.by_index.0 k 0 h) (λ k h l. c.rotate_left.ensures.by_index.1 k 0 h l) t arcs path c.list_ends.ensures c.rotate_left.ensures.after in
    let P : List ℕ → Type 0 = λ es. Turned t arcs path es in
    subst P (sym (take-put_mid 0 (n - 0) ring ys n (omega arith) (omega arith))) turned
