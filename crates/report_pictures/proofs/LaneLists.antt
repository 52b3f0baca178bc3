-- The lines of events on lanes, for one event more and one lane more.
use Rattle.std.proofs.Common.{◌≡◌, ℕ, ◌+◌, ◌<◌, List, [], ◌∷◌, ◌++◌, Bool, true, false, cond, length, get_or, take, refl, sym, ap, subst, ◌∙◌, add-one}
use Rattle.std.specs.List.{flat_map}
use Rattle.event_order.specs.declared.causes.Lane.{Lane}
use Rattle.event_order.specs.declared.event.Event.{Event}
use Rattle.report_pictures.specs.Lanes.{is_on, lane, line_on, lines_of_lane, lines_of_lanes, lines_of_sender}
use Rattle.outer_io.specs.declared.sink.Sink.{Ghosts}
use Rattle.outer_io.specs.declared.writer.Writer.{Writer}
use Rattle.picture_text.specs.Markup.{PutsElements, line_shown, markup}
use Rattle.picture_text.proofs.PieceSteps.{pieces_nothing, pieces_then}
use Rattle.report_pictures.proofs.PieceLoops.{flat_map_next}

-- an event that moves no buffer of the lane has no line there
pub none_on : (l : Lane) (e : Event) → is_on l e ≡ false → line_on l e ≡ []
none_on l e none = rw none refl

pub none_more : (l : Lane) (es : List Event) (i : ℕ) (e d : Event) → i < length es → e ≡ get_or es i d → is_on l e ≡ false → lines_of_lane l (take i es) ≡ [] → lines_of_lane l (take (i + 1) es) ≡ []
none_more l es i e d within is none before =
    flat_map_next (line_on l) es i e d within is ∙ ap (λ t. t ++ line_on l e) before ∙ none_on l e none

-- the lines of one lane more from a sender, and of one sender more
sender_more : (es : List Event) (s n : ℕ) → lines_of_sender es s (n + 1) ≡ lines_of_sender es s n ++ lines_of_lane (lane s n) es
unfolding lines_of_sender
sender_more es s n = rw add-one refl

lanes_more : (es : List Event) (n : ℕ) → lines_of_lanes es (n + 1) ≡ lines_of_lanes es n ++ lines_of_sender es n 8
unfolding lines_of_lanes
lanes_more es n = rw add-one refl

pub no_lane : {K : Type 0} (sink : Ghosts K) (a : Writer K) (es : List Event) (s : ℕ) → PutsElements sink a a (lines_of_sender es s 0)
unfolding lines_of_sender
no_lane sink a es s = pieces_nothing markup line_shown sink a

pub no_sender : {K : Type 0} (sink : Ghosts K) (a : Writer K) (es : List Event) → PutsElements sink a a (lines_of_lanes es 0)
unfolding lines_of_lanes
no_sender sink a es = pieces_nothing markup line_shown sink a

pub put_lane_then : {K : Type 0} (sink : Ghosts K) (a b c : Writer K) (es : List Event) (s n : ℕ) → PutsElements sink a b (lines_of_sender es s n) → PutsElements sink b c (lines_of_lane (lane s n) es) → PutsElements sink a c (lines_of_sender es s (n + 1))
put_lane_then sink a b c es s n p q =
    subst (λ (ls : List ℕ). PutsElements sink a c ls) (sym (sender_more es s n)) (pieces_then markup line_shown sink a b c _ _ p q)

pub put_sender_then : {K : Type 0} (sink : Ghosts K) (a b c : Writer K) (es : List Event) (n : ℕ) → PutsElements sink a b (lines_of_lanes es n) → PutsElements sink b c (lines_of_sender es n 8) → PutsElements sink a c (lines_of_lanes es (n + 1))
put_sender_then sink a b c es n p q =
    subst (λ (ls : List ℕ). PutsElements sink a c ls) (sym (lanes_more es n)) (pieces_then markup line_shown sink a b c _ _ p q)
