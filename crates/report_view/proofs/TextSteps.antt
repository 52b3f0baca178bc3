-- Some text, and then some more.
use Rattle.std.proofs.Common.{◌≡◌, ℕ, false, List, [], ◌++◌, Result}
use Rattle.outer_io.specs.Puts.{IsFinished, Puts}
use Rattle.outer_io.specs.declared.sink.Sink.{Ghosts}
use Rattle.outer_io.specs.declared.writer.Writer.{Writer}
use Rattle.outer_io.proofs.Finishing.{finished, puts_same}
use Rattle.outer_io.proofs.Writing.{puts_then, puts_nothing}
use Rattle.report_view.specs.Texts.{PutsText, WritesText}

pub text_then : {K : Type 0} (sink : Ghosts K) (a b c : Writer K) → PutsText sink a b → PutsText sink b c → PutsText sink a c
unfolding PutsText
text_then sink a b c p q = (p.0 ++ q.0, puts_then sink a b c p.0 q.0 p.1 q.1)

-- a piece is some text
pub text_piece : {K : Type 0} (sink : Ghosts K) (a b : Writer K) (x : List ℕ) → Puts sink a b x → PutsText sink a b
unfolding PutsText
text_piece sink a b x p = (x, p)

pub text_nothing : {K : Type 0} (sink : Ghosts K) (a : Writer K) → PutsText sink a a
unfolding PutsText
text_nothing sink a = ([], puts_nothing sink a)

-- in the form that `grind` applies
pub text_step : {K : Type 0} (sink : Ghosts K) (a b : Writer K) → PutsText sink a b → PutsText sink a b × ((c : Writer K) → PutsText sink b c → PutsText sink a c)
text_step sink a b p = (p, λ c q. text_then sink a b c p q)

pub piece_step : {K : Type 0} (sink : Ghosts K) (a b : Writer K) (x : List ℕ) → Puts sink a b x → PutsText sink a b × ((c : Writer K) → PutsText sink b c → PutsText sink a c)
piece_step sink a b x p = text_step sink a b (text_piece sink a b x p)

-- what a function of several pieces needs
pub ruleset text_steps = (text_step, piece_step, text_nothing)

-- the writer stays on its sink
pub text_same : {K : Type 0} (sink : Ghosts K) (first last : Writer K) → PutsText sink first last → last.sink.ghost_name ≡ first.sink.ghost_name
unfolding PutsText
text_same sink first last p = puts_same sink first last p.0 p.1

-- what was put to a new writer is written when it is finished
pub text_written : {K T E : Type 0} (sink : Ghosts K) (first last : Writer K) (end : K) (result : Result T E) → first.failed ≡ false → first.gathered.items ≡ [] → PutsText sink first last → IsFinished sink last end result → WritesText sink first.sink.now end result
unfolding PutsText
text_written sink first last end result sound empty p q =
    let written = finished sink first last end result p.0 sound empty p.1 q in
    record { text = p.0; bytes = written.bytes; cause = written.cause }
