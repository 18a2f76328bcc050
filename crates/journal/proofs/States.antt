-- A plan's state of its parts, and a step of what a match has found.
use Rattle.std.proofs.Common.{◌≡◌, ℕ, List, Ok, Err, Result, Option, sym, ap, ◌∙◌, subst}
use Rattle.std.specs.Prelude.{IsErr}
use Rattle.std.specs.Result.{IsErrAnd}
use Rattle.std.proofs.lemmas.Bool.{false≢true}
use Rattle.kinds.specs.Time.{Time}
use Rattle.records.specs.declared.Track.{Track}
use Rattle.records.specs.declared.Run.{Run}
use Rattle.records.specs.declared.Connection.{Connection}
use Rattle.records.specs.Lent.{Lists}
use Rattle.force.specs.declared.work.Work.{Work}
use Rattle.force.specs.Work.{WorkLengths, work_lengths, SameWork}
use Rattle.rules.specs.declared.faults.PlanFault.{PlanFault}
use Rattle.plan.specs.declared.states.Slip.{Slip}
use Rattle.plan.specs.States.{lists}
use Rattle.plan.specs.Calls.{lengths}
use Rattle.journal.specs.declared.calls.Call.{Call}
use Rattle.journal.specs.declared.calls.CallFault.{CallFault}
use Rattle.journal.specs.declared.calls.CallFault.TheVariants as fault
use Rattle.journal.specs.declared.calls.Plan.{Plan}
use Rattle.journal.specs.Books.{Books, Reply, after}
use Rattle.journal.specs.declared.memories.Memories.{Memories}
use Rattle.journal.specs.Memories.{Sizes, State, MemoryLengths, SameMemories, sizes, memory_lengths}
use Rattle.journal.specs.Promise.{Stands, Told}

-- how long all memories are, by how long those beside working memory are and how long that is
abbrev sizes_of : MemoryLengths → WorkLengths → Sizes
sizes_of m w = record {
  tracks = m.tracks;
  runs = m.runs;
  connections = m.connections;
  settings = m.settings;
  trial = m.trial;
  slips = m.slips;
  work = lengths m.times m.ring w;
}

module _ {K : Type 0} where
  abbrev pub state_of : Plan → Lists K → List K → List (Option Slip) → State K
  state_of p records times slips = record { plan = p; records = records; times = times; slips = slips }

  pub same_state : {p q : Plan} {r r' : Lists K} {ts ts' : List K} {ss ss' : List (Option Slip)} → p ≡ q → r ≡ r' → ts ≡ ts' → ss ≡ ss' → state_of p r ts ss ≡ state_of q r' ts' ss'
  same_state a b c d = cc

  pub same_lists : {a a' : List (Track K)} {b b' : List (Run K)} {c c' : List (Connection K)} {d d' : List ℕ} → a ≡ a' → b ≡ b' → c ≡ c' → d ≡ d' → lists a b c d ≡ lists a' b' c' d'
  same_lists e f g h = cc

  pub same_sizes : (m m' : Memories K) (w w' : Work K) → SameMemories m m' → SameWork w w' → sizes m' w' ≡ sizes m w
  same_sizes m m' w w' x y = ap (λ l. sizes_of l (work_lengths w')) x.long ∙ ap (sizes_of (memory_lengths m)) y.long

  pub same_on : (a b c : Memories K) → SameMemories a b → SameMemories b c → SameMemories a c
  same_on a b c x y = record {
    tracks = y.tracks ∙ x.tracks;
    runs = y.runs ∙ x.runs;
    connections = y.connections ∙ x.connections;
    settings = y.settings ∙ x.settings;
    times = y.times ∙ x.times;
    trial = y.trial ∙ x.trial;
    ring = y.ring ∙ x.ring;
    slips = y.slips ∙ x.slips;
    long = y.long ∙ x.long;
  }

  pub same_work_on : (a b c : Work K) → SameWork a b → SameWork b c → SameWork a c
  same_work_on a b c x y = record {
    places = y.places ∙ x.places;
    floors = y.floors ∙ x.floors;
    arcs = y.arcs ∙ x.arcs;
    tables = y.tables ∙ x.tables;
    marks = y.marks ∙ x.marks;
    long = y.long ∙ x.long;
  }

  -- the call and the reply, as they were found to be
  pub stepped : (t : Time K) {l : Sizes} (B : Books K) {c c' : Call K} {r r' : Reply K} {ring : List ℕ} {trial : List K} {s : State K} → c ≡ c' → r ≡ r'
      → Told t l B c' r' ring trial × Stands t (after t B c' r') s → Told t l B c r ring trial × Stands t (after t B c r) s
  stepped t {l} B {c} {c'} {r} {r'} {ring} {trial} {s} e f both =
      let P : Call K → Type 0 = λ x. Told t l B x r ring trial × Stands t (after t B x r) s in
      let Q : Reply K → Type 0 = λ y. Told t l B c' y ring trial × Stands t (after t B c' y) s in
      subst P (sym e) (subst Q (sym f) both)

-- a fault of the plan that was passed on
pub passed_on : {X : Type 0} (r : Result X CallFault) (f : PlanFault) → IsErr r × IsErrAnd r (λ e. e ≡ fault.Plan f) → r ≡ Err (fault.Plan f)
passed_on (Err e) f h = ap Err h.1
passed_on (Ok x) f h = absurd (false≢true h.0)
