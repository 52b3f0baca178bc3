-- What the runs of domains tell of deeds, as the laws of boards take it; and which deeds a journal tells of: calls as the scenario has
-- them, few that succeed, and frames taken from neighbours alone.
use Rattle.std.proofs.Common.{◌≡◌, ℕ, ◌+◌, ◌≤◌, ◌<◌, ◌^◌, List, [], ◌∷◌, ◌++◌, map, length, Option, Some, None, refl, sym, ap, ◌∙◌, subst, arith, append_assoc}
use Rattle.std.specs.Prelude.{◌==◌}
use Rattle.std.specs.List.{AllByRecursion, flat_map}
use Rattle.mc_base.specs.Limits.{last_node}
use Rattle.board_model.specs.declared.scenario.Call.{Call}
use Rattle.board_model.specs.declared.scenario.Call.TheVariants.{Create, Delete, Lookup, MsgSend, MsgRecv, MsgRecvI, MsgAvailable, Connect, OpenSend, OpenRecv, PktSend, PktRecv, PktRecvI, Release, SclSend, SclRecv, CloseSend, CloseRecv, Test, Wait, WaitAny, Cancel, Raw, Turn}
use Rattle.board_model.specs.declared.scenario.CallLine.{CallLine}
use Rattle.board_model.specs.declared.scenario.DomainLine.{DomainLine}
use Rattle.board_model.specs.declared.scenario.Scenario.{Scenario}
use Rattle.board_model.specs.Scenario.{script, neighbours}
use Rattle.board_model.specs.LinkedBoard.{HasFitArguments, IsLinkedBoard}
use Rattle.board_model.specs.Journal.{PlainEntry, turned, put, again, waits, called, PlainAnswer, refuses, Visit, Taken}
use Rattle.board_model.specs.State.{DomainState}
use Rattle.board_model.specs.Labels.{Labels, call_of}
use Rattle.board_model.specs.Step.{RunState, Allowed, next_line, after}
use Rattle.board_model.specs.Run.{start, Leads, after_all, left_by, IsDomainRun}
use Rattle.board_model.specs.Traffic.{put_to, taken_from}
use Rattle.board_model.specs.Board.{DomainJournal}
use Rattle.board_model.specs.Deeds.{Deed, looks_back, puts_owed, looks_ahead, takes, along}
use Rattle.board_model.specs.Turn.{takes_named}
use Rattle.board_model.specs.JournalDeeds.{names_from, named_deeds, call_deeds, entry_deeds, deeds_along, deeds_of, opened, left_in}
use Rattle.board_model.specs.Unnamed.{unnamed}
use Rattle.board_model.proofs.DeedRuns.{IsDeedRun, puts_by, takes_by}
use Rattle.board_model.proofs.RunFronts.{allowed-front}
use Rattle.board_model.proofs.RunDeeds.{AllAllowed, allowed-all, deeds_run, state_is, puts_are, takes_are}
use Rattle.board_model.proofs.ListsApart.{all-unmap}
use Rattle.board_model.proofs.MessageAlls.{all-at, all-append, all-filter, all-with}
use Rattle.board_model.proofs.OrderRuns.{few}
use Rattle.board_model.proofs.PlaceBoards.{neighbours_differ}
use Rattle.board_model.proofs.HonestSound.{Sound}
use Rattle.board_model.proofs.HonestRuns.{anything, hears_anything, sound_opening, sound_deeds}
use Rattle.board_model.proofs.KeptLanes.{IsOnce, IsFrom, each_once}
use Rattle.board_model.proofs.HonestPosts.{FitsCall}
use Rattle.board_model.proofs.KeptSends.{FitsDeed}
use Rattle.board_model.proofs.OrderSerials.{all_succeed}

-- the run of a domain is a run of deeds, with the same frames put and taken, and the same state but for the names of frames
pub record TellsDeeds (s : Scenario) (j : DomainJournal) : Type 0 where
  pub run : IsDeedRun (opened s j) (deeds_of s j)
  pub state : (left_by s j.line j.entries).state ≡ unnamed (left_in s j)
  pub puts : (peer : ℕ) → put_to peer j.entries ≡ along (puts_by peer) (opened s j) (deeds_of s j)
  pub takes : (peer : ℕ) → taken_from peer j.entries ≡ flat_map (takes_by peer) (deeds_of s j)

pub tells_deeds : (s : Scenario) (j : DomainJournal) → IsLinkedBoard s → IsDomainRun s j.line j.entries → TellsDeeds s j
tells_deeds s j board run = record { run = deeds_run s j board run; state = state_is s j board run; puts = puts_are s j board run; takes = takes_are s j board run }

-- ---- entries that are allowed

leads_all : (lines : List CallLine) (r : RunState) (es : List PlainEntry) → AllAllowed lines r es → Leads lines r es (after_all lines r es)
leads_all lines r [] allowed = refl
leads_all lines r (e ∷ es) allowed = (after lines r e, record { allowed = allowed.0; leads = refl }, leads_all lines (after lines r e) es allowed.1)

allowed_back : (lines : List CallLine) (r : RunState) (es fs : List PlainEntry) → AllAllowed lines r (es ++ fs) → AllAllowed lines (after_all lines r es) fs
allowed_back lines r [] fs allowed = allowed
allowed_back lines r (e ∷ es) fs allowed = allowed_back lines (after lines r e) es fs allowed.1

-- ---- the deeds of a turn

module _ (P : Deed → Type 0) (Q : ℕ → Type 0) (back : (q n : ℕ) → P (looks_back q n)) (owed : (q : ℕ) (f : List ℕ) → P (puts_owed q f)) (ahead : (q n : ℕ) → P (looks_ahead q n)) (takes_it : (q : ℕ) (name : Option ℕ) (t : Taken) → Q q → P (takes q name t.frame t.fate)) where
  each_owed : (q : ℕ) (fs : List (List ℕ)) → AllByRecursion P (map (puts_owed q) fs)
  each_owed q [] = tt
  each_owed q (f ∷ fs) = (owed q f, each_owed q fs)

  each_take : (q : ℕ) (name : ℕ → Option ℕ) (ts : List Taken) → Q q → AllByRecursion P (takes_named name q ts)
  each_take q name [] is = tt
  each_take q name (t ∷ ts) is = (takes_it q (name 0) t is, each_take q (λ k. name (k + 1)) ts is)

  each_visit : (before : List PlainEntry) (v : Visit) → Q v.peer → AllByRecursion P (named_deeds before v)
  each_visit before v is =
      (back v.peer v.back, all-append P (map (puts_owed v.peer) v.owed) (looks_ahead v.peer v.see ∷ takes_named (names_from (length (taken_from v.peer before))) v.peer v.takes) (each_owed v.peer v.owed) (ahead v.peer v.see, each_take v.peer (names_from (length (taken_from v.peer before))) v.takes is))

  pub each_turn : (before : List PlainEntry) (vs : List Visit) → AllByRecursion (λ v. Q v.peer) vs → AllByRecursion P (flat_map (named_deeds before) vs)
  each_turn before [] all = tt
  each_turn before (v ∷ vs) all = all-append P (named_deeds before v) (flat_map (named_deeds before) vs) (each_visit before v all.0) (each_turn before vs all.1)

any_visit : (vs : List Visit) → AllByRecursion (λ (v : Visit). Unit {0}) vs
any_visit [] = tt
any_visit (v ∷ vs) = (tt, any_visit vs)

-- ---- calls are as the scenario has them

-- a line as a lawful scenario has it
abbrev FitsLine : CallLine → Type 0
FitsLine c = (c.node ≤ last_node) × HasFitArguments c.call

fits_call : (labels : Labels) (s : DomainState) (call : Call) → HasFitArguments call → FitsCall (call_of labels s call)
fits_call labels s (MsgSend port to priority bytes) fits = fits.2
fits_call labels s (Create port) fits = fits
fits_call labels s (Delete port) fits = tt
fits_call labels s (Lookup name) fits = tt
fits_call labels s (MsgRecv port max) fits = tt
fits_call labels s (MsgRecvI port max) fits = tt
fits_call labels s (MsgAvailable port) fits = tt
fits_call labels s (Connect port to kind) fits = tt
fits_call labels s (OpenSend port kind) fits = tt
fits_call labels s (OpenRecv port kind) fits = tt
fits_call labels s (PktSend port bytes) fits = tt
fits_call labels s (PktRecv port) fits = tt
fits_call labels s (PktRecvI port) fits = tt
fits_call labels s (Release label) fits = tt
fits_call labels s (SclSend port bits value) fits = fits.1
fits_call labels s (SclRecv port bits) fits = tt
fits_call labels s (CloseSend port) fits = tt
fits_call labels s (CloseRecv port) fits = tt
fits_call labels s (Test label) fits = tt
fits_call labels s (Wait label limit) fits = tt
fits_call labels s (WaitAny names limit) fits = tt
fits_call labels s (Cancel label) fits = tt
fits_call labels s (Raw domain bytes) fits = tt
fits_call labels s Turn fits = tt

fits_line : (lines : List CallLine) (r : RunState) (a : PlainAnswer) (o : Option CallLine) → AllByRecursion FitsLine lines → next_line lines r ≡ o → AllByRecursion FitsDeed (call_deeds o r a)
fits_line lines r a None fit is = tt
fits_line lines r a (Some line) fit is = let fits = all-at FitsLine lines r.lines_called line fit is in ((fits.0, fits_call r.labels r.state line.call fits.1), tt)

fits_entry : (lines : List CallLine) (before : List PlainEntry) (r : RunState) (e : PlainEntry) → AllByRecursion FitsLine lines → AllByRecursion FitsDeed (entry_deeds lines before r e)
fits_entry lines before r (turned vs) fit = each_turn FitsDeed (λ q. Unit {0}) (λ q n. tt) (λ q f. tt) (λ q n. tt) (λ q name t is. tt) before vs (any_visit vs)
fits_entry lines before r (put peer frame) fit = tt
fits_entry lines before r (again word) fit = fits_line lines r (refuses word) (next_line lines r) fit refl
fits_entry lines before r (waits k) fit = tt
fits_entry lines before r (called k a) fit = fits_line lines r a (next_line lines r) fit refl

pub fits_along : (lines : List CallLine) (before : List PlainEntry) (r : RunState) (es : List PlainEntry) → AllByRecursion FitsLine lines → AllByRecursion FitsDeed (deeds_along lines before r es)
fits_along lines before r [] fit = tt
fits_along lines before r (e ∷ es) fit = all-append FitsDeed (entry_deeds lines before r e) (deeds_along lines (before ++ e ∷ []) (after lines r e) es) (fits_entry lines before r e fit) (fits_along lines (before ++ e ∷ []) (after lines r e) es fit)

-- ---- frames are taken from neighbours

abbrev pub numbers_of : Scenario → DomainLine → List ℕ
numbers_of s d = map (λ n. n.number) (neighbours s d)

module _ (s : Scenario) (board : IsLinkedBoard s) where
  -- after a run the domain has its neighbours for peers
  pub after_run : (j : DomainJournal) → IsDomainRun s j.line j.entries → Sound (left_in s j).endpoints_given anything (numbers_of s j.line) (left_in s j)
  after_run j run = sound_deeds (left_in s j).endpoints_given anything (numbers_of s j.line) (opened s j) (deeds_of s j) (hears_anything (deeds_of s j)) (omega arith)
      (sound_opening (left_in s j).endpoints_given anything j.line.domain j.line.nodes (neighbours s j.line))

  module _ (d : DomainLine) where
    abbrev lines : List CallLine
    lines = script s d.domain

    abbrev FromPeers : Deed → Type 0
    FromPeers e = IsFrom (numbers_of s d) e

    from_entry : (before : List PlainEntry) (e : PlainEntry) → AllAllowed lines (start s d) before → Allowed lines (after_all lines (start s d) before) e → AllByRecursion FromPeers (entry_deeds lines before (after_all lines (start s d) before) e)
    from_entry before (turned vs) so_far allowed =
        let j : DomainJournal = record { line = d; entries = before } in
        let run : IsDomainRun s d before = record { steps = leads_all lines (start s d) before so_far; settled = allowed.0 } in
        let peers : map (λ v. v.peer) vs ≡ numbers_of s d = allowed.1.each_peer ∙ (ap (λ (t : DomainState). map (λ p. p.number) t.peers) (tells_deeds s j board run).state ∙ (after_run j run).numbers) in
        each_turn FromPeers (IsOnce (numbers_of s d)) (λ q n. tt) (λ q f. tt) (λ q n. tt) (λ q name t is. is) before vs
        (all-unmap (IsOnce (numbers_of s d)) (λ (v : Visit). v.peer) vs (subst (AllByRecursion (IsOnce (numbers_of s d))) (sym peers) (each_once (numbers_of s d) (neighbours_differ s board d))))
    from_entry before (put peer frame) so_far allowed = tt
    from_entry before (again word) so_far allowed = from_call (next_line lines (after_all lines (start s d) before)) (refuses word)
      where
        from_call : (o : Option CallLine) (a : PlainAnswer) → AllByRecursion FromPeers (call_deeds o (after_all lines (start s d) before) a)
        from_call None a = tt
        from_call (Some line) a = (tt, tt)
    from_entry before (waits k) so_far allowed = tt
    from_entry before (called k a) so_far allowed = from_call (next_line lines (after_all lines (start s d) before))
      where
        from_call : (o : Option CallLine) → AllByRecursion FromPeers (call_deeds o (after_all lines (start s d) before) a)
        from_call None = tt
        from_call (Some line) = (tt, tt)

    after_more : (r : RunState) (before : List PlainEntry) (e : PlainEntry) → after_all lines r (before ++ e ∷ []) ≡ after lines (after_all lines r before) e
    after_more r [] e = refl
    after_more r (b ∷ bs) e = after_more (after lines r b) bs e

    from_along : (before es : List PlainEntry) → AllAllowed lines (start s d) (before ++ es) → AllByRecursion FromPeers (deeds_along lines before (after_all lines (start s d) before) es)
    from_along before [] allowed = tt
    from_along before (e ∷ es) allowed =
        let r : RunState = after_all lines (start s d) before in
        let next : AllAllowed lines (start s d) ((before ++ e ∷ []) ++ es) = subst (AllAllowed lines (start s d)) (sym (append_assoc before (e ∷ []) es)) allowed in
        all-append FromPeers (entry_deeds lines before r e) (deeds_along lines (before ++ e ∷ []) (after lines r e) es)
        (from_entry before e (allowed-front lines (start s d) before (e ∷ es) allowed) (allowed_back lines (start s d) before (e ∷ es) allowed).0)
        (subst (λ t. AllByRecursion FromPeers (deeds_along lines (before ++ e ∷ []) t es)) (after_more (start s d) before e) (from_along (before ++ e ∷ []) es next))

  -- ---- what is known of the deeds of a journal

  pub record OfJournal (j : DomainJournal) : Type 0 where
    pub fit : AllByRecursion FitsDeed (deeds_of s j)
    pub from : AllByRecursion (IsFrom (numbers_of s j.line)) (deeds_of s j)
    pub few : all_succeed (deeds_of s j) + 1 < 2 ^ 64

  pub of_journal : (j : DomainJournal) → IsDomainRun s j.line j.entries → OfJournal j
  of_journal j run =
      let allowed : AllAllowed (script s j.line.domain) (start s j.line) j.entries = allowed-all (script s j.line.domain) (start s j.line) (left_by s j.line j.entries) j.entries run.steps in
      let each_fits : AllByRecursion FitsLine s.calls = all-with (λ (c : CallLine). c.node ≤ last_node) (λ (c : CallLine). HasFitArguments c.call) FitsLine (λ c node arguments. (node, arguments)) s.calls board.nodes_fit board.arguments_fit in
      let lines_fit = all-filter FitsLine (λ c. c.domain == j.line.domain) s.calls each_fits in
      record {
        fit = fits_along (script s j.line.domain) [] (start s j.line) j.entries lines_fit;
        from = from_along j.line [] j.entries allowed;
        few = few s j board run;
      }
