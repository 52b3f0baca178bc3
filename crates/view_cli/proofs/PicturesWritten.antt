-- Pictures that are written.
use Rattle.std.proofs.Common.{◌≡◌, ℕ, List, [], false, Result, Ok, Err, arith}
use Rattle.std.specs.Prelude.{OnErr}
use Rattle.event_order.specs.declared.event.Event.{Event}
use Rattle.outer_io.specs.Puts.{IsFinished, Puts}
use Rattle.outer_io.specs.declared.sink.Sink.{Ghosts}
use Rattle.outer_io.specs.declared.writer.Writer.{Writer}
use Rattle.outer_io.proofs.Finishing.{finished}
use Rattle.report_events.specs.Events.{AreInOrder}
use Rattle.report_view.specs.declared.view.DomainView.{DomainView}
use Rattle.report_view.specs.Texts.{WritesText}
use Rattle.view_cli.specs.Drawing.{WritesPicture}
use Rattle.view_cli.specs.Drawn.{Draws}

-- what was put to a new writer is written when it is finished
pub picture_written : {K T E : Type 0} (sink : Ghosts K) (picture : List Event → List ℕ → Type 0) (events : List Event) (first last : Writer K) (end : K) (result : Result T E) (text : List ℕ)
    → first.failed ≡ false → first.gathered.items ≡ [] → picture events text → Puts sink first last text → IsFinished sink last end result → WritesPicture sink picture events first.sink.now end result
picture_written sink picture events first last end result text sound empty drawn p q =
    let written = finished sink first last end result text sound empty p q in
    record { text = text; drawn = drawn; bytes = written.bytes; cause = written.cause }

pub text_of_picture : {K T E : Type 0} (sink : Ghosts K) (picture : List Event → List ℕ → Type 0) (events : List Event) (old new : K) (result : Result T E) → WritesPicture sink picture events old new result → WritesText sink old new result
text_of_picture sink picture events old new result w = record { text = w.text; bytes = w.bytes; cause = w.cause }

-- after a write that went through
pub draws_after : {K T E : Type 0} (sink : Ghosts K) (picture : List Event → List ℕ → Type 0) (domains : List DomainView) (events : List Event) (old new : K) (written : Result T E) (status : ℕ)
    → WritesPicture sink picture events old new written → OnErr written (status ≡ 5) → AreInOrder domains events → status ≡ 0
    → Draws picture domains (sink.written old) (sink.written new)
draws_after sink picture domains events old new (Ok x) status w err order done = record {
  events = events;
  order = order;
  text = w.text;
  drawn = w.drawn;
  written = w.bytes;
}
draws_after sink picture domains events old new (Err x) status w err order done = absurd (omega (arith, err, done))
