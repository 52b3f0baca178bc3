-- The pictures of a report: a trace, a chart of lanes, and a sequence diagram of a part of the events.
-- Source: docs/FORMATS.md, "Views of a report".
use Rattle.std.specs.Prelude.{◌≡◌, ◌+◌, ◌-◌, ℕ, List, map, min, Option, None, Some, Ok}
use Rattle.std.specs.Io.KnownBytes.{Appends}
use Rattle.event_order.specs.declared.event.Event.{Event}
use Rattle.picture_text.specs.Markup.{IsPicture}
use Rattle.picture_text.specs.Objects.{IsTrace}
use Rattle.report_events.specs.Events.{AreInOrder}
use Rattle.report_pictures.specs.Lanes.{lines_of_lanes}
use Rattle.report_sequence.specs.Shown.{lines_drawn, part_of}
use Rattle.report_text.specs.TextPass.{told_by_text}
use Rattle.report_text.specs.TextRead.{told_of}
use Rattle.report_view.specs.declared.view.DomainView.{DomainView}
use Rattle.report_view.specs.declared.view.View.{View}
use Rattle.report_view.specs.Journals.{in_report, in_view, journal_of, journals_told}
use Rattle.view_cli.specs.Asked.{most}
use Rattle.view_cli.specs.declared.asked.Asked.{Asked}

-- the text of a picture, by the events that it draws
abbrev pub traced : List Event → List ℕ → Type 0
traced es text = IsTrace (map (λ e. e.line) es) text

abbrev pub charted : List Event → List ℕ → Type 0
charted es text = IsPicture (lines_of_lanes es 8) text

-- how many events a sequence diagram shows where no last one is asked for
abbrev pub page : ℕ
page = 200

-- the place of the first event that is asked for: their numbers count from 1, and places from 0
abbrev pub first_place : Option ℕ → ℕ
first_place None = 0
first_place (Some number) = number - 1

-- the place behind the last one, by that of the first
abbrev pub behind_last : ℕ → Option ℕ → ℕ
behind_last first None = min (first + page) most
behind_last first (Some number) = number

-- the events that are asked for, of all in their order
abbrev pub asked_of : Asked → List Event → List Event
asked_of a es = part_of (first_place a.from) (behind_last (first_place a.from) a.to) es

abbrev pub sequenced : Asked → List Event → List ℕ → Type 0
sequenced a es text = IsPicture (lines_drawn (asked_of a es)) text

-- such a picture was written of the events of these domains, in an order in which causes come first
pub record Draws (picture : List Event → List ℕ → Type 0) (domains : List DomainView) (old new : Option (List ℕ)) : Type 0 where
  pub events : List Event
  pub order : AreInOrder domains events
  pub text : List ℕ
  pub drawn : picture events text
  pub written : Appends old new text

-- the report was read, its journals are those of the view, and such a picture of them was written
pub record ShowsPicture (picture : List Event → List ℕ → Type 0) (report : List ℕ) (old new : Option (List ℕ)) : Type 0 where
  pub view : View
  pub told : told_by_text report ≡ Ok (told_of view.told)
  pub journals : map in_view (map journal_of view.domains.items) ≡ map in_report (journals_told (told_of view.told))
  pub draws : Draws picture view.domains.items old new
