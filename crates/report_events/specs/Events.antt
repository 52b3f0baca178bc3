-- The events of a report: what the lines of its journals say that a picture shows.
-- Source: docs/FORMATS.md, "Journal text".
use Rattle.std.specs.Prelude.{ℕ, ◌≡◌, List, [], ◌∷◌, map, Option, None, Some}
use Rattle.std.specs.List.{flat_map}
use Rattle.std.specs.List.Sorted.{IsPermutation}
use Rattle.board_model.specs.Journal.{Line, put_line, take_line, back_line, wait_line, again_line, spin_line, call_line}
use Rattle.event_order.specs.Causes.{AreBacked}
use Rattle.event_order.specs.OwnOrder.{AllRise}
use Rattle.event_order.specs.declared.causes.Cause.TheVariants.{Buffers, Frames}
use Rattle.event_order.specs.declared.event.Event.{Event}
use Rattle.event_order.specs.declared.event.What.{What}
use Rattle.event_order.specs.declared.event.What.TheVariants.{Put, Take, Give, Back, Wait, Again, Answer}
use Rattle.report_text.specs.CountedLines.{lines_counted}
use Rattle.report_view.specs.declared.view.DomainView.{DomainView}

-- a frame was put to a peer, or taken from it; so many buffers came back from it; a wait began; a call was refused and is made again, or it was answered
pub data Happening : Type 0 where
  puts : ℕ → Happening
  takes : ℕ → Happening
  has_back : ℕ → ℕ → Happening
  waits : Happening
  retries : Happening
  answers : Happening

-- that of a line, if it says one
abbrev pub happening_of_line : Line → List Happening
happening_of_line (put_line peer frame) = puts peer ∷ []
happening_of_line (take_line peer frame fate) = takes peer ∷ []
happening_of_line (back_line peer n) = has_back peer n ∷ []
happening_of_line (wait_line number) = waits ∷ []
happening_of_line (again_line word) = retries ∷ []
happening_of_line (spin_line n word) = retries ∷ []
happening_of_line (call_line number answer) = answers ∷ []
happening_of_line other = []

-- that of an event. No line says that a buffer was given back: this follows from the lines before
abbrev pub happening_of_what : What → List Happening
happening_of_what (Put peer) = puts peer ∷ []
happening_of_what (Take peer) = takes peer ∷ []
happening_of_what (Give peer n) = []
happening_of_what (Back peer n) = has_back peer n ∷ []
happening_of_what (Wait call) = waits ∷ []
happening_of_what Again = retries ∷ []
happening_of_what (Answer call refused) = answers ∷ []

-- what happened, with its domain
pub record DomainHappening : Type 0 where
  pub domain : ℕ
  pub happening : Happening

abbrev pub by_domain : ℕ → Happening → DomainHappening
by_domain domain happening = record { domain = domain; happening = happening }

abbrev pub what_happenings : ℕ → What → List DomainHappening
what_happenings domain what = map (by_domain domain) (happening_of_what what)

abbrev pub said_happenings : ℕ → Option What → List DomainHappening
said_happenings domain None = []
said_happenings domain (Some what) = what_happenings domain what

abbrev pub event_happenings : Event → List DomainHappening
event_happenings e = what_happenings e.domain e.what

abbrev pub line_happenings : ℕ → Line → List DomainHappening
line_happenings domain l = map (by_domain domain) (happening_of_line l)

-- those of the journal at the front of a text
abbrev pub text_happenings : ℕ → List ℕ → List DomainHappening
text_happenings domain text = flat_map (line_happenings domain) (lines_counted text)

abbrev pub domain_happenings : DomainView → List DomainHappening
domain_happenings d = text_happenings d.journal.domain d.journal.text.now

-- events in some order, each once: what they say beside buffers that were given back is what the journals of the domains say
pub record AreAllEvents (domains : List DomainView) (events : List Event) : Type 0 where
  pub listed : List Event
  pub each : flat_map event_happenings listed ≡ flat_map domain_happenings domains
  pub once : IsPermutation listed events

-- the events of these domains, each once, in an order in which causes come first
pub record AreInOrder (domains : List DomainView) (events : List Event) : Type 0 where
  pub all : AreAllEvents domains events
  pub own : AllRise events
  pub frames : AreBacked Frames events
  pub buffers : AreBacked Buffers events
