-- What is done by a verdict, as what is done with what a frame says.
use Rattle.std.proofs.Common.{◌≡◌, ℕ, Bool, true, false, cond, List, [], refl, sym, ap, subst, ◌∙◌, Result, Ok, Err, OnOk, IfOk}
use Rattle.mc_base.specs.Reading.{Reading}
use Rattle.mc_base.specs.declared.fate.Fate.{Fate}
use Rattle.board_model.specs.Change.{changed, changed_all}
use Rattle.board_model.specs.Dealing.{keeps_buffer}
use Rattle.board_model.specs.Parts.{Came}
use Rattle.board_model.specs.Returns.{given_at_once}
use Rattle.board_model.specs.State.{DomainState, Item}
use Rattle.board_model.specs.TakenFrames.{row_of}
use Rattle.report_replay.specs.Dealt.{AddsFor, Deals}
use Rattle.report_replay.specs.Verdicts.{Follows, Keeps, changes_of, kept_change, kept_word, known_of, word_of}
use Rattle.report_replay.specs.declared.verdict.Action.{Action}
use Rattle.report_replay.proofs.Taken.{adds-none}

kept_once : (hands : Bool) (names : List ℕ) → given_at_once (kept_word hands) names ≡ []
kept_once true names = refl
kept_once false names = refl

module _ {E : Type 0} (peer : ℕ) (c : Came) (r : Reading) (s t : DomainState) (old : List (List ℕ)) where
  -- nothing is kept
  pub acts-dealt : (result : Result Fate E) (new : List (List ℕ)) (i : Item) (a : Action) → Follows peer (known_of s peer) i (row_of s peer c r) a
      → IfOk result (λ word. word ≡ word_of a) → OnOk result ((i : Item) → t ≡ changed_all s (changes_of peer (known_of s peer) i a)) → OnOk result (AddsFor peer c.names old new) → IfOk result (Deals peer c r s t old new)
  acts-dealt (Err e) new i a follows is done adds = tt
  acts-dealt (Ok word) new i a follows is done adds = record {
    word = is ∙ follows.word;
    state = done i ∙ ap (changed_all s) follows.changes;
    given = subst (λ ns. AddsFor peer ns old new) (sym (ap (λ k. cond k [] c.names) (ap keeps_buffer is ∙ follows.drops))) adds;
  }

  -- the item is kept
  pub keeps-dealt : (result : Result Fate E) (at : ℕ) (hands : Bool) (i item : Item) → Keeps at hands i (row_of s peer c r) → item ≡ i
      → IfOk result (λ word. word ≡ kept_word hands) → OnOk result (t ≡ changed s (kept_change at item hands)) → IfOk result (Deals peer c r s t old old)
  keeps-dealt (Err e) at hands i item keeps same is done = tt
  keeps-dealt (Ok word) at hands i item keeps same is done = record {
    word = is ∙ keeps.word;
    state = done ∙ ap (λ x. changed s (kept_change at x hands)) same ∙ ap (changed_all s) keeps.changes;
    given = subst (λ ns. AddsFor peer ns old old) (sym (ap (λ f. given_at_once f c.names) is ∙ kept_once hands c.names)) (adds-none peer old);
  }
