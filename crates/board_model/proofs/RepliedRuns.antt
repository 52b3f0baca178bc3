-- Along every run of deeds, what tests and waits return of lookups and of requests to connect was said before.
use Rattle.std.proofs.Common.{◌≡◌, ℕ, List, [], ◌∷◌, ◌++◌, map, Option, Some, None, refl, sym, ap, ◌∙◌, subst}
use Rattle.std.specs.Prelude.{◌==◌, Contains, slice_get}
use Rattle.std.proofs.lemmas.Bool.{eq-eqb}
use Rattle.std.specs.List.{AllByRecursion}
use Rattle.std.proofs.lemmas.List.{append-nil}
use Rattle.std.proofs.lemmas.List.Elements.{Contains-append_left, Contains-append_right}
use Rattle.mc_base.specs.FullName.{end_name}
use Rattle.mc_base.specs.NameMap.{rank}
use Rattle.mc_base.specs.declared.name.EndName.{EndName}
use Rattle.mc_base.specs.declared.refusal.Refusal.{Refusal}
use Rattle.board_model.specs.declared.scenario.Scenario.{Scenario}
use Rattle.board_model.specs.LinkedBoard.{IsLinkedBoard}
use Rattle.board_model.specs.Scenario.{Neighbour, neighbours}
use Rattle.board_model.specs.DomainCall.{create_at, test_of, wait_for}
use Rattle.board_model.specs.Journal.{PlainResult, tells, completes}
use Rattle.board_model.specs.State.{Asked, name_of, channel_of, message_at, packet_at, Outcome, has_address, is_accepted, is_rejected, has_item, has_ended, Request, DomainState, new_peer, opening, request_at_place}
use Rattle.board_model.specs.Answer.{local, first_complete, place_said, refusal, result_by, result_of, answer_by}
use Rattle.board_model.specs.Run.{IsDomainRun}
use Rattle.board_model.specs.Board.{DomainJournal}
use Rattle.board_model.specs.Deeds.{Deed, takes, calls, after_deeds, MayDo, AllMayDo, along, EachDeed}
use Rattle.board_model.specs.JournalDeeds.{deeds_of, opened}
use Rattle.board_model.specs.Replied.{addresses_said, replies_said, WasSaid, IsSoOf, Returns, TestsTellSaid}
use Rattle.board_model.proofs.DeedJoins.{after-join, along-join}
use Rattle.board_model.proofs.MessageAlls.{all-at}
use Rattle.board_model.proofs.RunDeeds.{deeds_run}
use Rattle.board_model.proofs.RepliedSound.{Settled, IsSettled, OwesMade, KnowsSaid, Said, said_more}
use Rattle.board_model.proofs.RepliedDeeds.{there_if, Makes, HearsNamed, said_deed}

-- ---- at the opening nothing is owed or known

module _ (made : EndName → ℕ → Type 0) (named : ℕ → ℕ → Type 0) (replied : ℕ → PlainResult → Type 0) where
  new_owed : (number : ℕ) (ns : List Neighbour) → AllByRecursion (OwesMade made named replied number) (map new_peer ns)
  new_owed number [] = tt
  new_owed number (n ∷ ns) = (tt, new_owed number ns)

  new_known : (ns : List Neighbour) → AllByRecursion (KnowsSaid made named replied) (map new_peer ns)
  new_known [] = tt
  new_known (n ∷ ns) = (tt, new_known ns)

  pub said_opening : (number nodes : ℕ) (ns : List Neighbour) → Said made named replied (opening number nodes ns)
  said_opening number nodes ns = record { ends = tt; owed = new_owed number ns; names = new_known ns; settled = tt }

-- ---- what is returned of a request is as its outcome

module _ (made : EndName → ℕ → Type 0) (named : ℕ → ℕ → Type 0) (replied : ℕ → PlainResult → Type 0) (IsSo : Asked → PlainResult → Type 0) (so : (asked : Asked) (o : Option Outcome) → Settled named replied asked o → IsSo asked (result_by asked o)) (s : DomainState) (said : Said made named replied s) where
  request_so : (place : Option ℕ) → IsSoOf IsSo (request_at_place s place) (result_of (request_at_place s place))
  request_so None = tt
  request_so (Some i) = go (slice_get s.requests i) refl
    where
      go : (o : Option Request) → slice_get s.requests i ≡ o → IsSoOf IsSo o (result_of o)
      go None is = tt
      go (Some r) is = so r.asked r.outcome (all-at (IsSettled made named replied) s.requests i r said.settled is)

  returned : (o : Option Request) (which place : Option ℕ) (result : PlainResult) (r : Option Refusal) → completes which result ≡ answer_by r (completes place (result_of o)) → IsSoOf IsSo o (result_of o) → IsSoOf IsSo o result
  returned o which place result (Some w) is has = absurd cc
  returned o which place result None is has = let same : result_of o ≡ result = cc in subst (IsSoOf IsSo o) same has

  pub returns_so : (d : Deed) → MayDo s d → Returns IsSo s d
  returns_so (calls node (test_of place) (completes which result)) may = returned (request_at_place s place) which None result (refusal s node (test_of place)) may (request_so place)
  returns_so (calls node (wait_for requests says_place) (completes which result)) may =
      returned (request_at_place s (first_complete s requests)) which (place_said s requests says_place) result (refusal s node (wait_for requests says_place)) may (request_so (first_complete s requests))
  returns_so other may = tt

module _ (start : DomainState) where
  -- what was said by then
  abbrev named_by : List Deed → ℕ → ℕ → Type 0
  named_by before n a = Contains (along (addresses_said n) start before) a

  abbrev made_by : List Deed → EndName → ℕ → Type 0
  made_by before n a = named_by before (rank n) a

  abbrev replied_by : List Deed → ℕ → PlainResult → Type 0
  replied_by before k r = Contains (along (replies_said k) start before) r

  abbrev SaidBy : List Deed → Type 0
  SaidBy before = Said (made_by before) (named_by before) (replied_by before) (after_deeds start before)

  more_of : {A : Type 0} (f : DomainState → Deed → List A) (before : List Deed) (d : Deed) → along f start (before ++ d ∷ []) ≡ along f start before ++ f (after_deeds start before) d
  more_of f before d = along-join f start before (d ∷ []) ∙ ap (λ xs. along f start before ++ xs) (append-nil (f (after_deeds start before) d))

  old_of : {A : Type 0} (f : DomainState → Deed → List A) (before : List Deed) (d : Deed) (x : A) → Contains (along f start before) x → Contains (along f start (before ++ d ∷ [])) x
  old_of f before d x has = subst (λ xs. Contains xs x) (sym (more_of f before d)) (Contains-append_left (along f start before) (f (after_deeds start before) d) x has)

  new_of : {A : Type 0} (f : DomainState → Deed → List A) (before : List Deed) (d : Deed) (x : A) → Contains (f (after_deeds start before) d) x → Contains (along f start (before ++ d ∷ [])) x
  new_of f before d x has = subst (λ xs. Contains xs x) (sym (more_of f before d)) (Contains-append_right (along f start before) (f (after_deeds start before) d) x has)

  -- what a deed makes and hears is said by it
  makes_said : (before : List Deed) (d : Deed) → Makes (made_by (before ++ d ∷ [])) (after_deeds start before) d
  makes_said before (calls node (create_at port) (tells address)) =
      let t = after_deeds start before in
      new_of (addresses_said (rank (end_name t.number (local node port)))) before (calls node (create_at port) (tells address)) address
      (there_if (rank (end_name t.number (local node port)) == rank (end_name t.number (local node port))) address (eq-eqb (rank (end_name t.number (local node port))) (rank (end_name t.number (local node port))) refl))
  makes_said before other = tt

  hears_said : (before : List Deed) (d : Deed) → HearsNamed (named_by (before ++ d ∷ [])) (after_deeds start before) d
  hears_said before (takes q name frame word) = λ n a has. new_of (addresses_said n) before (takes q name frame word) a has
  hears_said before other = tt

  said_next : (before : List Deed) (d : Deed) → MayDo (after_deeds start before) d → SaidBy before → SaidBy (before ++ d ∷ [])
  said_next before d may said =
      let next = before ++ d ∷ [] in
      subst (Said (made_by next) (named_by next) (replied_by next)) (sym (after-join start before (d ∷ [])))
      (said_deed (made_by next) (named_by next) (replied_by next) (λ n a has. has) (after_deeds start before)
      (said_more (made_by before) (made_by next) (named_by before) (named_by next) (replied_by before) (replied_by next) (λ n a has. old_of (addresses_said (rank n)) before d a has) (λ n a has. old_of (addresses_said n) before d a has) (λ k r has. old_of (replies_said k) before d r has) (after_deeds start before) said)
      d may (makes_said before d) (hears_said before d) (λ k r has. new_of (replies_said k) before d r has))

  result_said : (before : List Deed) (asked : Asked) (o : Option Outcome) → Settled (named_by before) (replied_by before) asked o → WasSaid start before asked (result_by asked o)
  result_said before (name_of n) None is = tt
  result_said before (name_of n) (Some (has_address a)) is = is
  result_said before (name_of n) (Some is_accepted) is = tt
  result_said before (name_of n) (Some (is_rejected why)) is = tt
  result_said before (name_of n) (Some (has_item i)) is = tt
  result_said before (name_of n) (Some (has_ended word)) is = tt
  result_said before (channel_of k) None is = tt
  result_said before (channel_of k) (Some (has_address a)) is = tt
  result_said before (channel_of k) (Some is_accepted) is = is
  result_said before (channel_of k) (Some (is_rejected why)) is = is
  result_said before (channel_of k) (Some (has_item i)) is = tt
  result_said before (channel_of k) (Some (has_ended word)) is = tt
  result_said before (message_at at max) o is = tt
  result_said before (packet_at at) o is = tt

  each_told : (before ds : List Deed) → SaidBy before → AllMayDo (after_deeds start before) ds → EachDeed (λ b d. Returns (WasSaid start b) (after_deeds start b) d) before ds
  each_told before [] said may = tt
  each_told before (d ∷ ds) said may = (
    returns_so (made_by before) (named_by before) (replied_by before) (WasSaid start before) (λ asked o is. result_said before asked o is) (after_deeds start before) said d may.0,
    each_told (before ++ d ∷ []) ds (said_next before d may.0 said) (subst (λ t. AllMayDo t ds) (sym (after-join start before (d ∷ []))) may.1),
  )

module _ (s : Scenario) (j : DomainJournal) (board : IsLinkedBoard s) (run : IsDomainRun s j.line j.entries) where
  pub tests_tell_said : TestsTellSaid s j
  tests_tell_said = each_told (opened s j) [] (deeds_of s j) (said_opening (λ n a. Contains [] a) (λ n a. Contains [] a) (λ k r. Contains [] r) j.line.domain j.line.nodes (neighbours s j.line)) (deeds_run s j board run).may
