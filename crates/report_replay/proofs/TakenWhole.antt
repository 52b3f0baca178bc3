-- A frame that is taken, once it is read with the open part of its peer: what is done with it is what the definitions say.
use Rattle.std.proofs.Common.{◌≡◌, ℕ, Bool, true, List, [], ◌∷◌, ◌++◌, map, Option, None, Some, append-nil, sym, ap, subst, ◌∙◌, Result, Ok, Err, IfOk}
use Rattle.std.specs.Prelude.{filter, is_none, not}
use Rattle.mc_base.specs.Reading.{Reading, brings, reading}
use Rattle.mc_base.specs.declared.fate.Fate.{Fate}
use Rattle.mc_base.specs.declared.fate.Fate.TheVariants as fate
use Rattle.name_service.specs.Said.{reading_of}
use Rattle.name_service.specs.declared.said.Said.{Said}
use Rattle.board_model.specs.Change.{at_peer, changed, changed_all, frame_taken, held_as}
use Rattle.board_model.specs.Deeds.{after_deed, taken_change, takes}
use Rattle.board_model.specs.Parts.{Came, Coming, came_from, coming_from, held_if, named_so, names_before, names_ended}
use Rattle.board_model.specs.Returns.{given_at_once, given_by_frame}
use Rattle.board_model.specs.State.{DomainState, HeldFrame, Part, held_of, holds_from}
use Rattle.board_model.specs.TakenFrames.{Row, first_row, last_row, row, row_from, row_of}
use Rattle.report_replay.specs.Coming.{IsHeld, SaysSo}
use Rattle.report_replay.specs.Dealt.{AddsFor, Deals, shown_less}
use Rattle.report_replay.specs.Ends.{came_in}
use Rattle.report_replay.specs.Read.{coming_read}
use Rattle.report_replay.specs.declared.part.Says.TheVariants.{Alone}
use Rattle.report_replay.proofs.Taken.{adds-then, row-same}

-- the frame is taken, with its word
pub record Took (s : DomainState) (peer : ℕ) (name : Option ℕ) (frame : List ℕ) (t : DomainState) (old new : List (List ℕ)) (its : Fate) : Type 0 where
  pub word : its ≡ (row_from s peer name frame).word
  pub state : t ≡ after_deed s (takes peer name frame its)
  pub given : AddsFor peer (given_by_frame s peer name frame its) old new

-- the state `s` before, `s1` once the frame is read, and `s2` once the frames of the part that was open are taken out
module _ (s s1 s2 : DomainState) (peer : ℕ) (name : Option ℕ) (n : ℕ) (frame : List ℕ) (own : Reading) (joins : Bool) (earlier : List ℕ) (old mid : List (List ℕ))
    (named : n ≡ named_so name) (own_is : own ≡ reading frame)
    (read : s1 ≡ record s { peers = at_peer peer (shown_less (coming_read s peer own).part) s.peers })
    (joins_is : joins ≡ (coming_read s peer own).joins)
    (before : earlier ≡ names_before joins (held_of s1 peer))
    (ended : s2 ≡ record s1 { held = filter (λ h. not (holds_from peer h)) s1.held })
    (gave : AddsFor peer (names_ended joins (held_of s1 peer)) old mid) where
  abbrev c : Coming
  c = coming_from s peer frame

  abbrev held : List ℕ
  held = held_of s peer

  abbrev came : Came
  came = came_from s peer name frame

  same : coming_read s peer own ≡ c
  same = ap (coming_read s peer) own_is

  held_same : held_of s1 peer ≡ held
  held_same = ap (λ (x : DomainState). held_of x peer) read

  joined : joins ≡ c.joins
  joined = joins_is ∙ ap (λ (x : Coming). x.joins) same

  names_is : earlier ++ n ∷ [] ≡ came.names
  names_is =
      ap (λ (xs : List ℕ). xs ++ n ∷ []) (before ∙ ap (λ b. names_before b (held_of s1 peer)) joined ∙ ap (names_before c.joins) held_same)
      ∙ ap (λ m. names_before c.joins held ++ m ∷ []) named

  ended_is : AddsFor peer (names_ended c.joins held) old mid
  ended_is = subst (λ b. AddsFor peer (names_ended b held) old mid) joined (subst (λ hs. AddsFor peer (names_ended joins hs) old mid) held_same gave)

  state_is : s2 ≡ record s { peers = at_peer peer (shown_less c.part) s.peers; held = filter (λ h. not (holds_from peer h)) s.held }
  state_is =
      ended
      ∙ ap (λ (x : DomainState). record x { held = filter (λ h. not (holds_from peer h)) x.held }) read
      ∙ ap (λ (x : Coming). record s { peers = at_peer peer (shown_less x.part) s.peers; held = filter (λ h. not (holds_from peer h)) s.held }) same

  -- ---- what the frame says is whole, or no piece of anything

  module _ (none : c.part ≡ None) (names : List ℕ) (names_are : came.names ≡ names) (r : Reading) (reads : c.reading ≡ r) where
    came_is : came ≡ came_in names
    came_is = ap (λ (ns : List ℕ). record { names = ns; part = c.part }) names_are ∙ ap (λ (o : Option Part). record { names = names; part = o }) none

    change_is : taken_change peer came ≡ frame_taken peer None []
    change_is = ap (λ (o : Option Part). frame_taken peer o (held_if o came.names)) none

    taken_is : s2 ≡ changed s (frame_taken peer None [])
    taken_is =
        state_is
        ∙ ap (λ (o : Option Part). record s { peers = at_peer peer (shown_less o) s.peers; held = filter (λ h. not (holds_from peer h)) s.held }) none
        ∙ ap (λ (hs : List HeldFrame). record s { peers = at_peer peer (shown_less None) s.peers; held = hs }) (sym (append-nil (filter (λ h. not (holds_from peer h)) s.held)))

    rows : row_of s2 peer (came_in names) r ≡ row_from s peer name frame
    rows =
        ap (λ (x : DomainState). row_of x peer (came_in names) r) taken_is
        ∙ row-same s peer None [] peer (came_in names) r
        ∙ sym (ap (λ (x : Came). row_of s peer x c.reading) came_is ∙ ap (row_of s peer (came_in names)) reads)

    took : (t : DomainState) (new : List (List ℕ)) (its : Fate) → Deals peer (came_in names) r s2 t mid new its → Took s peer name frame t old new its
    took t new its d = record {
      word = d.word ∙ ap (λ (x : Row). x.word) rows;
      state =
          d.state
          ∙ ap (λ (x : Row). changed_all s2 x.happens) rows
          ∙ ap (λ (x : DomainState). changed_all x (row_from s peer name frame).happens) (taken_is ∙ ap (changed s) (sym change_is));
      given = subst (λ ns. AddsFor peer (names_ended c.joins held ++ given_at_once its ns) old new) (sym names_are) (adds-then peer (names_ended c.joins held) (given_at_once its names) old mid new ended_is d.given);
    }

    all_took : {E : Type 0} (t : DomainState) (new : List (List ℕ)) (result : Result Fate E) → IfOk result (Deals peer (came_in names) r s2 t mid new) → IfOk result (Took s peer name frame t old new)
    all_took t new (Ok its) d = took t new its d
    all_took t new (Err e) d = tt

  pub took-alone : {E : Type 0} (said : Said) → SaysSo own (Alone said) (coming_read s peer own) → (t : DomainState) (new : List (List ℕ)) (result : Result Fate E)
      → IfOk result (Deals peer (came_in (n ∷ [])) (reading_of said) s2 t mid new) → IfOk result (Took s peer name frame t old new)
  took-alone said so t new result d =
      let is = sym same ∙ so.1 in
      all_took (ap (λ (x : Coming). x.part) is) (n ∷ [])
      (ap (λ (x : Coming). names_before x.joins held ++ named_so name ∷ []) is ∙ ap (λ m. m ∷ []) (sym named))
      (reading_of said) (ap (λ (x : Coming). x.reading) is ∙ sym so.0) t new result d

  pub took-whole : {E : Type 0} (r : Reading) → (coming_read s peer own).reading ≡ r → (coming_read s peer own).part ≡ None → (t : DomainState) (new : List (List ℕ)) (result : Result Fate E)
      → IfOk result (Deals peer (came_in (earlier ++ n ∷ [])) r s2 t mid new) → IfOk result (Took s peer name frame t old new)
  took-whole r reads none t new result d =
      all_took (ap (λ (x : Coming). x.part) (sym same) ∙ none) (earlier ++ n ∷ []) (sym names_is) r (ap (λ (x : Coming). x.reading) (sym same) ∙ reads) t new result d

  -- ---- it is held in the part that is open after it

  pub took-held : IsHeld (coming_read s peer own) → (t : DomainState) → t ≡ record s2 { held = s2.held ++ map (held_as peer) (earlier ++ n ∷ []) }
      → t ≡ changed_all (changed s (taken_change peer came)) (row_from s peer name frame).happens
  took-held so t is =
      let names = earlier ++ n ∷ [] in
      let open_after : c.part ≡ Some so.3 = ap (λ (x : Coming). x.part) (sym same) ∙ so.5 in
      let held_row : row_of s peer came c.reading ≡ row_of s peer came (brings so.0 so.1 so.2) = ap (row_of s peer came) (ap (λ (x : Coming). x.reading) (sym same) ∙ so.4) in
      let row_is : row_from s peer name frame ≡ row true fate.Part [] = held_row ∙ ap (λ (o : Option Part). first_row (row (is_none o) fate.Stray [] ∷ last_row fate.Part [])) open_after in
      is
      ∙ ap (λ (x : DomainState). record x { held = x.held ++ map (held_as peer) names }) state_is
      ∙ ap (λ (ns : List ℕ). changed s (frame_taken peer c.part ns)) (names_is ∙ sym (ap (λ (o : Option Part). held_if o came.names) open_after))
      ∙ ap (λ (x : Row). changed_all (changed s (taken_change peer came)) x.happens) (sym row_is)
