-- Deeds and lines that are due, one after the other.
use Rattle.std.proofs.Common.{Bool, true, false, List, [], ◌∷◌, ◌++◌, refl}
use Rattle.board_model.specs.Journal.{Line}
use Rattle.board_model.specs.Deeds.{Deed}
use Rattle.report_check.specs.Meeting.{LinesLeft, Meets}
use Rattle.report_check.specs.NamedStates.{GoesOn}
use Rattle.report_check.specs.Doing.{IsDone}
use Rattle.report_check.specs.declared.named_state.NamedState.{NamedState}
use Rattle.report_check.proofs.NamedLemmas.{goes-nothing, goes-then}
use Rattle.report_check.proofs.MeetingLemmas.{meets-nothing, meets-then, meets-missed}

pub done-nothing : (s : NamedState) (l : LinesLeft) → IsDone s s l l [] [] true
done-nothing s l = record { lines = meets-nothing l; state = λ e. goes-nothing s }

-- one of the first lines is missed: what would follow does not matter
pub done-missed : (s t : NamedState) (l m : LinesLeft) (deeds : List Deed) (due next : List Line) → Meets l m due false → IsDone s t l m deeds (due ++ next) false
done-missed s t l m deeds due next missed = record { lines = meets-missed l m due next missed; state = λ e. absurd cc }

pub done-then : (s t u : NamedState) (l m n : LinesLeft) (ds es : List Deed) (due next : List Line) (is : Bool) → IsDone s t l m ds due true → IsDone t u m n es next is → IsDone s u l n (ds ++ es) (due ++ next) is
done-then s t u l m n ds es due next is first then = record {
  lines = meets-then l m n due next is first.lines then.lines;
  state = λ e. goes-then s t u ds es (first.state refl) (then.state e);
}

-- one deed whose lines were met
pub done-one : (s t : NamedState) (l m : LinesLeft) (d : Deed) (due : List Line) → Meets l m due true → GoesOn s t (d ∷ []) → IsDone s t l m (d ∷ []) due true
done-one s t l m d due met is = record { lines = met; state = λ e. is }
