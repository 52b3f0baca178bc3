-- Each frame that the entries of a run put is bytes, and goes to a peer. The frames before a call are known by the call.
use Rattle.std.proofs.Common.{◌≡◌, ℕ, ◌+◌, ◌^◌, ◌<◌, min, List, [], ◌∷◌, ◌++◌, Option, Some, None, option_map, sym, subst}
use Rattle.std.specs.Prelude.{IsSome}
use Rattle.std.specs.List.{AllByRecursion}
use Rattle.mc_base.specs.Limits.{turn_limit}
use Rattle.board_model.specs.declared.scenario.CallLine.{CallLine}
use Rattle.board_model.specs.Answer.{puts}
use Rattle.board_model.specs.Journal.{PlainEntry, turned, put, again, waits, called, Visit}
use Rattle.board_model.specs.LinkedBoard.{HasFitArguments}
use Rattle.board_model.specs.Run.{after_all}
use Rattle.board_model.specs.State.{DomainState, owed_to}
use Rattle.board_model.specs.Step.{RunState, HasNoPuts, next_line, call_at, limit_of, MayCome, Allowed, effect_of_line, after}
use Rattle.board_model.specs.Turn.{AreVisits, after_visit, after_turn}
use Rattle.board_model.proofs.MessageAlls.{all-at, all-parts}
use Rattle.board_model.proofs.RunDeeds.{AllAllowed}
use Rattle.mc_journal.specs.EntryText.{AreBytes}
use Rattle.report_text.proofs.TurnsDue.{Sound, sound-visit, sound-call}
use Rattle.report_laws.proofs.CallsFit.{call-fits, FitsPut, puts-fit}
use Rattle.report_laws.proofs.FramesFit.{all-take, owed-fits}

abbrev pub OwesBytes : Visit → Type 0
OwesBytes v = AllByRecursion AreBytes v.owed

abbrev pub FitsPuts : PlainEntry → Type 0
FitsPuts (turned visits) = AllByRecursion OwesBytes visits
FitsPuts (put peer frame) = FitsPut (peer, frame)
FitsPuts other = Unit {0}

-- the frames that no call has answered for yet
abbrev Pending : Option (List (ℕ × List ℕ)) → Type 0
Pending None = Unit {0}
Pending (Some ps) = AllByRecursion FitsPut ps

none-pending : (o : Option (List (ℕ × List ℕ))) → HasNoPuts o → Pending o
none-pending None none = tt
none-pending (Some ps) none = subst (AllByRecursion FitsPut) (sym none) tt

one-less : (peer : ℕ) (frame : List ℕ) (o : Option (List (ℕ × List ℕ))) → IsSome o → Pending (option_map (λ ps. ps ++ (peer, frame) ∷ []) o) → Pending o × FitsPut (peer, frame)
one-less peer frame None some fits = absurd cc
one-less peer frame (Some ps) some fits = let parts = all-parts FitsPut ps ((peer, frame) ∷ []) fits in (parts.0, parts.1.0)

visits-owe : (s : DomainState) (vs : List Visit) → AreVisits s vs → AllByRecursion OwesBytes vs
visits-owe s [] are = tt
visits-owe s (v ∷ vs) are =
    (subst (AllByRecursion AreBytes) (sym are.0.puts_due) (all-take AreBytes (min turn_limit (are.0.at.free + v.back)) (owed_to s.number are.0.at) (owed-fits s.number are.0.at)), visits-owe (after_visit s v) vs are.1)

module _ (peers : List ℕ) where
  pub turn-sound : (s : DomainState) (vs : List Visit) → AreVisits s vs → Sound peers s → Sound peers (after_turn s vs)
  turn-sound s [] are h = h
  turn-sound s (v ∷ vs) are h = turn-sound (after_visit s v) vs are.1 (sound-visit peers s v h are.0)

  module _ (script : List CallLine) where
    after-sound : (r : RunState) (e : PlainEntry) → Allowed script r e → Sound peers r.state → Sound peers (after script r e).state
    after-sound r (turned vs) allowed h = turn-sound r.state vs allowed.1.allowed h
    after-sound r (put peer frame) allowed h = h
    after-sound r (again word) allowed h = h
    after-sound r (waits k) allowed h = h
    after-sound r (called k a) allowed h = subst (λ o. Sound peers (effect_of_line o r)) (sym allowed.1) (sound-call peers r.state allowed.0.node (call_at r allowed.0) h)

    module _ (few : AllByRecursion (λ n. n < 2 ^ 8) peers) (fit : AllByRecursion (λ c. HasFitArguments c.call) script) where
      call-puts : (r : RunState) (line : CallLine) → Sound peers r.state → next_line script r ≡ Some line → AllByRecursion FitsPut (puts r.state line.node (call_at r line))
      call-puts r line h next =
          puts-fit peers few r.state h line.node (call_at r line) (call-fits r.labels r.state line.call (all-at (λ (c : CallLine). HasFitArguments c.call) script r.lines_called line fit next)).0

      came-with : (r : RunState) (line : CallLine) → Sound peers r.state → next_line script r ≡ Some line → (o : Option ℕ) → MayCome o r line → Pending r.put_since_turn
      came-with r line h next None come = subst Pending (sym come) (call-puts r line h next)
      came-with r line h next (Some limit) come = none-pending r.put_since_turn come.0

      entries-put : (r : RunState) (es : List PlainEntry) → Sound peers r.state → AllAllowed script r es → HasNoPuts (after_all script r es).put_since_turn → Pending r.put_since_turn × AllByRecursion FitsPuts es
      entries-put r [] h allowed settled = (none-pending r.put_since_turn settled, tt)
      entries-put r (turned vs ∷ es) h allowed settled =
          let rest = entries-put (after script r (turned vs)) es (after-sound r (turned vs) allowed.0 h) allowed.1 settled in
          (none-pending r.put_since_turn allowed.0.0, (visits-owe r.state vs allowed.0.1.allowed, rest.1))
      entries-put r (put peer frame ∷ es) h allowed settled =
          let rest = entries-put (after script r (put peer frame)) es h allowed.1 settled in
          let one = one-less peer frame r.put_since_turn allowed.0 rest.0 in
          (one.0, (one.1, rest.1))
      entries-put r (again word ∷ es) h allowed settled =
          let rest = entries-put (after script r (again word)) es h allowed.1 settled in
          (subst Pending (sym allowed.0.3) tt, (tt, rest.1))
      entries-put r (waits k ∷ es) h allowed settled =
          let rest = entries-put (after script r (waits k)) es h allowed.1 settled in
          (none-pending r.put_since_turn allowed.0.5, (tt, rest.1))
      entries-put r (called k a ∷ es) h allowed settled =
          let line : CallLine = allowed.0.0 in
          let rest = entries-put (after script r (called k a)) es (after-sound r (called k a) allowed.0 h) allowed.1 settled in
          (came-with r line h allowed.0.1 (limit_of line.call) allowed.0.4, (tt, rest.1))

      pub puts-all : (r : RunState) (es : List PlainEntry) → Sound peers r.state → AllAllowed script r es → HasNoPuts (after_all script r es).put_since_turn → AllByRecursion FitsPuts es
      puts-all r es h allowed settled = (entries-put r es h allowed settled).1
