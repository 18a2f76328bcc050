-- One more line of a journal. Assumes nothing.
use Rattle.std.proofs.Common.{◌≡◌, ℕ, zero, suc, ◌+◌, ◌<◌, false, List, [], ◌∷◌, ◌++◌, map, length, get_or, take, set, replicate, is_some, Option, sym, refl, ap, ◌∙◌, subst, arith}
use Rattle.std.proofs.lemmas.List.{take_more_set}
use Rattle.std.proofs.lemmas.Bool.{false≢true}
use Rattle.kinds.specs.Time.{Time}
use Rattle.journal.specs.declared.calls.Line.{Line}
use Rattle.journal.specs.declared.calls.Call.{Call}
use Rattle.records.specs.Lent.{Lists}
use Rattle.plan.specs.Calls.{lengths}
use Rattle.plan.specs.declared.states.Slip.{Slip}
use Rattle.plan.specs.Drafting.{blank}
use Rattle.journal.specs.declared.calls.Plan.TheVariants as stage
use Rattle.journal.specs.Books.{Books, after, registered, new}
use Rattle.journal.proofs.Holds.{get_or_map}
use Rattle.journal.specs.Memories.{Sizes, State}
use Rattle.journal.specs.Promise.{Told, ToldAll, Stands, Step, Steps, call_of}
use Rattle.journal.proofs.States.{state_of}

module _ {K : Type 0} where
  pub registered_more : (t : Time K) (B : Books K) (xs : List (Line K)) (x : Line K) → registered t B (xs ++ x ∷ []) ≡ after t (registered t B xs) x.call x.reply
  registered_more t B [] x = refl
  registered_more t B (y ∷ ys) x = registered_more t (after t B y.call y.reply) ys x

  pub told_more : (t : Time K) (l : Sizes) (B : Books K) (xs : List (Line K)) (x : Line K) (ring : List ℕ) (trial : List K) → ToldAll t l B xs → Told t l (registered t B xs) x.call x.reply ring trial → ToldAll t l B (xs ++ x ∷ [])
  told_more t l B [] x ring trial h k = ((ring, (trial, k)), tt)
  told_more t l B (y ∷ ys) x ring trial h k = (h.0, told_more t l (after t B y.call y.reply) ys x ring trial h.1 k)

  -- a line that keeps its call keeps all calls
  pub calls_kept : (xs : List (Line K)) (i : ℕ) (d x : Line K) → call_of x ≡ call_of (get_or xs i d) → map call_of (set xs i x) ≡ map call_of xs
  calls_kept [] i d x e = refl
  calls_kept (y ∷ ys) zero d x e = ap {B = List _} (λ (z : Call K). z ∷ map call_of ys) e
  calls_kept (y ∷ ys) (suc i) d x e = ap {B = List _} (λ zs. call_of y ∷ zs) (calls_kept ys i d x e)

  -- what a whole list keeps, one step further
  pub step_more : (t : Time K) (l m : Sizes) (xs : List (Line K)) (i : ℕ) (x : Line K) (ring : List ℕ) (trial : List K) (s₀ s s' : State K) → i < length xs → m ≡ l
      → Steps t l s₀ (take i xs) s → Step t m s x.call x.reply ring trial s' → Steps t l s₀ (take (i + 1) (set xs i x)) s'
  step_more t l m xs i x ring trial s₀ s s' h e steps step = λ B stood.
      let so_far = steps B stood in
      let both = step (registered t B (take i xs)) so_far.1 in
      let T : Sizes → Type 0 = λ k. Told t k (registered t B (take i xs)) x.call x.reply ring trial in
      let here : Told t l (registered t B (take i xs)) x.call x.reply ring trial = subst T e both.0 in
      let S : Books K → Type 0 = λ b. Stands t b s' in
      let P : List (Line K) → Type 0 = λ ys. ToldAll t l B ys × Stands t (registered t B ys) s' in
      subst P (sym (take_more_set xs i x h))
      (told_more t l B (take i xs) x ring trial so_far.0 here, subst S (sym (registered_more t B (take i xs) x)) both.1)

-- lengths of times, ring and working memory that are equal one by one
pub same_work : {a b c d e f g a' b' c' d' e' f' g' : ℕ} → a ≡ a' → b ≡ b' → c ≡ c' → d ≡ d' → e ≡ e' → f ≡ f' → g ≡ g' → lengths a b (record { places = c; floors = d; arcs = e; tables = f; marks = g }) ≡ lengths a' b' (record { places = c'; floors = d'; arcs = e'; tables = f'; marks = g' })
same_work p q r s t u v = cc

none_at : (n r : ℕ) → get_or (replicate n false) r false ≡ false
none_at zero r = refl
none_at (suc n) zero = refl
none_at (suc n) (suc r) = none_at n r

-- a new plan stands, whatever lies in its memories, if no slip is kept
pub new_stands : {K : Type 0} (t : Time K) (number slots : ℕ) (records : Lists K) (times : List K) (slips : List (Option Slip)) → map is_some slips ≡ replicate slots false → Stands t (new number slots) (state_of (stage.Draft (blank number)) records times slips)
new_stands t number slots records times slips none =
    record {
      number = refl;
      opened = refl;
      stored = record {
        few_tracks = omega arith;
        few_runs = omega arith;
        few_connections = omega arith;
        limits = record {
          few_tracks = omega arith;
          few_runs = omega arith;
          few_connections = omega arith;
          few_orders = omega arith;
          tracks = record { each = λ k h. absurd (omega arith) };
          runs = record { each = λ k h. absurd (omega arith) };
          connections = record { each = λ k h. absurd (omega arith) };
          orders = λ i j o. let h = o.inside in absurd (omega arith);
          links = λ c h. absurd (omega arith);
        };
      };
      same = record {
        tracks = refl;
        runs = refl;
        connections = refl;
        orders = λ i j o. let h = o.inside in absurd (omega arith);
        links = λ c h. absurd (omega arith);
      };
      drafted = λ _. (record { each = λ r h. absurd (omega arith) }, none_at slots);
      shows = λ e. absurd (false≢true e);
      slips = none;
      held = λ e. absurd (false≢true e);
      own = λ r x e. absurd (false≢true (sym (none_at slots r) ∙ ap (λ bs. get_or bs r false) (sym none) ∙ get_or_map slips r ∙ ap is_some e));
    }
