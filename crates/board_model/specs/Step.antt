-- The steps of a domain that runs its script: which entry is allowed where, and the state that it leads to.
-- Source: docs/PROFILE.md, "Steps" and "Tries". A call comes after a turn, and after the frames that it puts, if it succeeds and puts
-- any. A line with tries makes its call again where it is refused with one of six words, at most as often as the line says. A wait comes
-- where it needs no turn; else it begins, and comes after the first turn after which one of its requests is complete, or at its limit of
-- turns. Other turns may come between two calls.
use Rattle.std.specs.Prelude.{◌≡◌, ℕ, ◌+◌, Bool, true, false, ◌&&◌, ◌||◌, ◌⊎◌, ◌≤◌, nat_lt, List, [], ◌∷◌, ◌++◌, slice_get, Option, None, Some, option_map, IsSome}
use Rattle.board_model.specs.declared.scenario.Call.{Call}
use Rattle.board_model.specs.declared.scenario.Call.TheVariants.{Wait, WaitAny}
use Rattle.board_model.specs.declared.scenario.CallLine.{CallLine}
use Rattle.mc_base.specs.declared.refusal.Refusal.{Refusal}
use Rattle.mc_base.specs.declared.refusal.Refusal.TheVariants.{Empty, NoBuffer, NotConnected, NotOpen, ChanConnected, Pending, Timeout}
use Rattle.board_model.specs.Journal.{PlainEntry, turned, put, again, waits, called, PlainAnswer, refuses, completes}
use Rattle.board_model.specs.State.{DomainState}
use Rattle.board_model.specs.Turn.{IsTurn, after_turn}
use Rattle.board_model.specs.DomainCall.{DomainCall}
use Rattle.board_model.specs.Labels.{Labels, call_of, labels_after}
use Rattle.board_model.specs.Answer.{answer, puts}
use Rattle.board_model.specs.CallChanges.{effect}

-- a wait that has begun: the turns made since, and whether one of its requests was complete before the last of them
pub record Waited : Type 0 where
  pub turns : ℕ
  pub done_before : Bool

-- a domain partway through its script: how many lines were called, how often the call of the next line was made already, the requests
-- and packets that labels name, the frames that the next call has put, each with its peer, where a turn was made since the last call, and
-- the wait of the next line, where it has begun
pub record RunState : Type 0 where
  pub state : DomainState
  pub lines_called : ℕ
  pub calls_made : ℕ
  pub labels : Labels
  pub put_since_turn : Option (List (ℕ × List ℕ))
  pub waited : Option Waited

-- no frames of the next call are put yet
abbrev pub HasNoPuts : Option (List (ℕ × List ℕ)) → Type 0
HasNoPuts None = Unit {0}
HasNoPuts (Some puts) = puts ≡ []

-- the next line
abbrev pub next_line : List CallLine → RunState → Option CallLine
next_line script r = slice_get script r.lines_called

-- the call of a line, as the domain knows it
abbrev pub call_at : RunState → CallLine → DomainCall
call_at r line = call_of r.labels r.state line.call

-- the words with which a call is made again
abbrev pub is_tried_word : Refusal → Bool
is_tried_word Empty = true
is_tried_word NoBuffer = true
is_tried_word NotConnected = true
is_tried_word NotOpen = true
is_tried_word ChanConnected = true
is_tried_word Pending = true
is_tried_word other = false

abbrev pub is_tried : PlainAnswer → Bool
is_tried (refuses word) = is_tried_word word
is_tried other = false

-- after one call more, a line may make its call once more
abbrev pub may_try : Option ℕ → ℕ → Bool
may_try None made = false
may_try (Some tries) made = nat_lt (made + 1) tries

-- whether a call with this answer is made again
abbrev pub tries_again : CallLine → RunState → PlainAnswer → Bool
tries_again line r a = is_tried a && may_try line.tries r.calls_made

-- ---- waits

-- the limit of turns of a call that waits
abbrev pub limit_of : Call → Option ℕ
limit_of (Wait label limit) = Some limit
limit_of (WaitAny labels limit) = Some limit
limit_of other = None

-- the answer of a wait where all its requests exist and none is complete
abbrev pub is_timeout : PlainAnswer → Bool
is_timeout (refuses Timeout) = true
is_timeout other = false

-- the answer of a wait where all its requests exist and one is complete
abbrev pub is_done : PlainAnswer → Bool
is_done (completes place result) = true
is_done other = false

-- a wait that has begun ends at its limit, where none is complete, or after the first turn after which one is, at most at its limit
abbrev pub EndsBegun : ℕ → PlainAnswer → Waited → Type 0
EndsBegun limit a w = ((w.turns ≡ limit) × (is_timeout a ≡ true)) ⊎ ((w.turns ≤ limit) × (w.done_before ≡ false) × (is_done a ≡ true))

-- one that has not begun ends where it needs no turn
abbrev pub EndsWait : ℕ → PlainAnswer → Option Waited → Type 0
EndsWait limit a None = is_timeout a ≡ false
EndsWait limit a (Some w) = EndsBegun limit a w

-- a call that is no wait comes after a turn, and after the frames that it puts
abbrev pub MayCome : Option ℕ → RunState → CallLine → Type 0
MayCome None r line = r.put_since_turn ≡ Some (puts r.state line.node (call_at r line))
MayCome (Some limit) r line = HasNoPuts r.put_since_turn × EndsWait limit (answer r.state line.node (call_at r line)) r.waited

-- whether one of the requests of a wait is complete
abbrev pub is_done_now : Option CallLine → RunState → Bool
is_done_now None r = false
is_done_now (Some line) r = is_done (answer r.state line.node (call_at r line))

abbrev pub one_turn_more : Bool → Waited → Waited
one_turn_more done w = record { turns = w.turns + 1; done_before = w.done_before || done }

-- ---- steps

abbrev pub Allowed : List CallLine → RunState → PlainEntry → Type 0
Allowed script r (turned visits) = HasNoPuts r.put_since_turn × IsTurn r.state visits
Allowed script r (put peer frame) = IsSome r.put_since_turn
Allowed script r (again word) = (line : CallLine) × (next_line script r ≡ Some line) × (refuses word ≡ answer r.state line.node (call_at r line)) × (r.put_since_turn ≡ Some []) × (tries_again line r (refuses word) ≡ true)
Allowed script r (waits k) = (line : CallLine) × (next_line script r ≡ Some line) × (k ≡ r.lines_called + 1) × IsSome (limit_of line.call) × (is_timeout (answer r.state line.node (call_at r line)) ≡ true) × HasNoPuts r.put_since_turn × (r.waited ≡ None)
Allowed script r (called k a) = (line : CallLine) × (next_line script r ≡ Some line) × (k ≡ r.lines_called + 1) × (a ≡ answer r.state line.node (call_at r line)) × MayCome (limit_of line.call) r line × (tries_again line r a ≡ false)

abbrev pub effect_of_line : Option CallLine → RunState → DomainState
effect_of_line None r = r.state
effect_of_line (Some line) r = effect r.state line.node (call_at r line)

abbrev pub labels_of_line : Option CallLine → RunState → Labels
labels_of_line None r = r.labels
labels_of_line (Some line) r = labels_after r.labels r.state line

abbrev pub after : List CallLine → RunState → PlainEntry → RunState
after script r (turned visits) = record r { state = after_turn r.state visits; put_since_turn = Some []; waited = option_map (one_turn_more (is_done_now (next_line script r) r)) r.waited }
after script r (put peer frame) = record r { put_since_turn = option_map (λ ps. ps ++ (peer, frame) ∷ []) r.put_since_turn }
after script r (again word) = record r { calls_made = r.calls_made + 1; put_since_turn = None }
after script r (waits k) = record r { waited = Some (record { turns = 0; done_before = false }) }
after script r (called k a) = record { state = effect_of_line (next_line script r) r; lines_called = r.lines_called + 1; calls_made = 0; labels = labels_of_line (next_line script r) r; put_since_turn = None; waited = None }

-- the entry leads from the one state to the other
pub record Step (script : List CallLine) (old : RunState) (entry : PlainEntry) (new : RunState) : Type 0 where
  pub allowed : Allowed script old entry
  pub leads : new ≡ after script old entry
