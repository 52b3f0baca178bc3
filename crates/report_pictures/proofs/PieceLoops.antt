-- Pieces of an output that a loop puts, and pieces between a head and an end.
use Rattle.std.proofs.Common.{◌≡◌, ℕ, ◌+◌, ◌<◌, List, [], ◌∷◌, ◌++◌, length, get_or, take, map, refl, sym, ap, subst, ◌∙◌, append-nil}
use Rattle.std.specs.List.{flat_map}
use Rattle.std.proofs.lemmas.List.{map_more, take_more}
use Rattle.std.proofs.lemmas.List.Concat.{flat_map-append}
use Rattle.outer_io.specs.Puts.{Puts}
use Rattle.outer_io.specs.declared.sink.Sink.{Ghosts}
use Rattle.outer_io.specs.declared.writer.Writer.{Writer}
use Rattle.outer_io.proofs.Writing.{puts_then}
use Rattle.picture_text.specs.Markup.{PutsElements, head, markup, page_end}
use Rattle.picture_text.specs.Objects.{PutsObjects, object_text, trace_end, trace_head}
use Rattle.picture_text.specs.Pieces.{PutsPieces}
use Rattle.picture_text.proofs.PieceSteps.{pieces_then}
use Rattle.report_pictures.specs.Pictures.{PutsPicture}
use Rattle.report_pictures.specs.Traces.{PutsTrace}

-- in a loop over a list, the pieces of one item more. `x` is the item, as the loop reads it
pub pieces_more : {K X Y : Type 0} (text shown : Y → List ℕ) (sink : Ghosts K) (a b c : Writer K) (line : X → ℕ) (xs : List X) (i : ℕ) (x d : X) → i < length xs → x ≡ get_or xs i d
    → PutsPieces text shown sink a b (map line (take i xs)) → PutsPieces text shown sink b c (line x ∷ []) → PutsPieces text shown sink a c (map line (take (i + 1) xs))
pieces_more text shown sink a b c line xs i x d within is p q =
    let all : map line (take (i + 1) xs) ≡ map line (take i xs) ++ line x ∷ [] = map_more line xs i d within ∙ ap (λ y. map line (take i xs) ++ line y ∷ []) (sym is) in
    subst (λ (ls : List ℕ). PutsPieces text shown sink a c ls) (sym all) (pieces_then text shown sink a b c _ _ p q)

-- what a function of the items makes of one more
pub flat_map_next : {X : Type 0} (lines : X → List ℕ) (xs : List X) (i : ℕ) (x d : X) → i < length xs → x ≡ get_or xs i d → flat_map lines (take (i + 1) xs) ≡ flat_map lines (take i xs) ++ lines x
flat_map_next lines xs i x d within is =
    ap (flat_map lines) (take_more xs i d within ∙ ap (λ y. take i xs ++ y ∷ []) (sym is)) ∙ flat_map-append lines (take i xs) (x ∷ []) ∙ ap (λ t. flat_map lines (take i xs) ++ t) (append-nil (lines x))

-- the same where an item has any number of lines
pub pieces_each : {K X Y : Type 0} (text shown : Y → List ℕ) (sink : Ghosts K) (a b c : Writer K) (lines : X → List ℕ) (xs : List X) (i : ℕ) (x d : X) → i < length xs → x ≡ get_or xs i d
    → PutsPieces text shown sink a b (flat_map lines (take i xs)) → PutsPieces text shown sink b c (lines x) → PutsPieces text shown sink a c (flat_map lines (take (i + 1) xs))
pieces_each text shown sink a b c lines xs i x d within is p q =
    subst (λ (ls : List ℕ). PutsPieces text shown sink a c ls) (sym (flat_map_next lines xs i x d within is)) (pieces_then text shown sink a b c _ _ p q)

-- pieces that show no line add none
pub pieces_end : {K Y : Type 0} (text shown : Y → List ℕ) (sink : Ghosts K) (a b c : Writer K) (ls : List ℕ) → PutsPieces text shown sink a b ls → PutsPieces text shown sink b c [] → PutsPieces text shown sink a c ls
pieces_end text shown sink a b c ls p q =
    subst (λ (ms : List ℕ). PutsPieces text shown sink a c ms) (append-nil ls) (pieces_then text shown sink a b c ls [] p q)

-- a picture, whose elements stand between its head and its end
pub picture_put : {K : Type 0} (sink : Ghosts K) (a b c d : Writer K) (width height : ℕ) (lines : List ℕ) → Puts sink a b (head width height) → PutsElements sink b c lines → Puts sink c d page_end → PutsPicture sink a d lines
unfolding PutsPieces PutsPicture
picture_put sink a b c d width height lines p q r = (
  head width height ++ (flat_map markup q.0 ++ page_end),
  record { width = width; height = height; elements = q.0; shows = q.1; is = refl },
  puts_then sink a b d _ _ p (puts_then sink b c d _ _ q.2 r),
)

-- a trace, whose objects stand between its head and its end
pub trace_put : {K : Type 0} (sink : Ghosts K) (a b c d : Writer K) (lines : List ℕ) → Puts sink a b trace_head → PutsObjects sink b c lines → Puts sink c d trace_end → PutsTrace sink a d lines
unfolding PutsPieces PutsTrace
trace_put sink a b c d lines p q r = (
  trace_head ++ (flat_map object_text q.0 ++ trace_end),
  record { objects = q.0; shows = q.1; is = refl },
  puts_then sink a b d _ _ p (puts_then sink b c d _ _ q.2 r),
)
