-- The lines of a turn, and the put lines of a call that stand behind them: the first that is out of place.
-- Source: docs/FORMATS.md, "Journal text"; docs/PROFILE.md, "A turn". A turn's lines go by peers in rising number, and at each peer in the
-- order back, put, see, take, with one look of each kind. Behind a look at frames stand the first 8 of those that it showed, or all.
use Rattle.std.specs.Prelude.{ℕ, ◌+◌, ◌-◌, min, Bool, true, false, ◌&&◌, ◌||◌, List, [], ◌∷◌, length, ◌==◌, nat_lt, Option, None, Some, if◌then◌else◌}
use Rattle.std.specs.List.{list_any}
use Rattle.mc_base.specs.Limits.{turn_limit}
use Rattle.report_text.specs.declared.outline.Outline.{Outline}
use Rattle.report_text.specs.declared.outline.Outline.TheVariants.{Back, Put, See, Take}
use Rattle.report_text.specs.TextLines.{moved}

-- a line that stands under another: of a turn, or a put
abbrev pub is_under : Outline → Bool
is_under (Back p n) = true
is_under (Put p) = true
is_under (See p n) = true
is_under (Take p) = true
is_under other = false

abbrev pub is_put : Outline → Bool
is_put (Put p) = true
is_put other = false

-- those that stand first
abbrev pub under_lines : List Outline → List Outline
under_lines [] = []
under_lines (l ∷ ls) = if is_under l then l ∷ under_lines ls else []

-- how many puts are first among lines, and how many are last, where so many are last before them
abbrev pub puts_first : List Outline → ℕ
puts_first [] = 0
puts_first (l ∷ ls) = if is_put l then puts_first ls + 1 else 0

abbrev pub puts_last : ℕ → List Outline → ℕ
puts_last n [] = n
puts_last n (l ∷ ls) = puts_last (if is_put l then n + 1 else 0) ls

-- ---- lines that no turn of the domain has, and no call: those of no peer, and looks that showed nothing

abbrev pub is_peer : List ℕ → ℕ → Bool
is_peer peers p = list_any (λ q. q == p) peers

abbrev pub is_possible : List ℕ → Outline → Bool
is_possible peers (Back p n) = is_peer peers p && nat_lt 0 n
is_possible peers (Put p) = is_peer peers p
is_possible peers (See p n) = is_peer peers p && nat_lt 0 n
is_possible peers (Take p) = is_peer peers p
is_possible peers other = true

abbrev pub impossible_place : List ℕ → List Outline → Option ℕ
impossible_place peers [] = None
impossible_place peers (l ∷ ls) = if is_possible peers l then moved 1 (impossible_place peers ls) else Some 0

-- ---- the order of a turn's lines

-- the peer of a line, and its part of the visit there
abbrev pub peer_in : Outline → ℕ
peer_in (Back p n) = p
peer_in (Put p) = p
peer_in (See p n) = p
peer_in (Take p) = p
peer_in other = 0

abbrev pub part_in : Outline → ℕ
part_in (Back p n) = 0
part_in (Put p) = 1
part_in (See p n) = 2
part_in other = 3

-- at a later peer, at a later part of the visit, or the next put there
abbrev pub comes_after : Outline → Outline → Bool
comes_after k l = nat_lt (peer_in k) (peer_in l) || (peer_in k == peer_in l && (nat_lt (part_in k) (part_in l) || (is_put k && is_put l)))

abbrev pub may_follow : Option Outline → Outline → Bool
may_follow None l = true
may_follow (Some k) l = comes_after k l

abbrev pub is_at_peer : Option Outline → ℕ → Bool
is_at_peer None p = false
is_at_peer (Some k) p = peer_in k == p

-- a line may stand behind this one, where so many takes are still due
abbrev pub is_next : ℕ → Option Outline → Outline → Bool
is_next due last (Take p) = nat_lt 0 due && is_at_peer last p
is_next due last other = due == 0 && may_follow last other

-- how many takes are due behind a line
abbrev pub takes_due : ℕ → Outline → ℕ
takes_due due (See p n) = min turn_limit n
takes_due due (Take p) = due - 1
takes_due due other = 0

-- a put out of its order may be a call's, as long as puts follow: the first other line shows that it is none
abbrev pub shown_at : ℕ → List Outline → ℕ
shown_at due ls = if due == 0 then puts_first ls else 0

abbrev pub unless_due : ℕ → Option ℕ
unless_due due = if due == 0 then None else Some 0

-- the first of so many lines of a turn that is out of order, where so many takes are due behind the line before
abbrev pub order_place : ℕ → ℕ → Option Outline → List Outline → Option ℕ
order_place own due last [] = unless_due due
order_place own due last (l ∷ ls) = if own == 0 then unless_due due else if is_next due last l then moved 1 (order_place (own - 1) (takes_due due l) (Some l) ls) else Some (shown_at due (l ∷ ls))

-- ---- all lines under a line

-- a turn has lines of its own, and is told at the line behind where it has none. No other line has any
abbrev pub own_place : Bool → ℕ → List Outline → Option ℕ
own_place true own ls = if own == 0 then Some (length ls) else order_place own 0 None ls
own_place false own ls = if own == 0 then None else Some (puts_first ls)

-- the earlier of two places
abbrev pub sooner : Option ℕ → Option ℕ → Option ℕ
sooner None second = second
sooner (Some first) None = Some first
sooner (Some first) (Some second) = Some (min first second)

-- how many of the lines are the turn's, where the call behind them has so many puts
abbrev pub own_count : ℕ → List Outline → ℕ
own_count puts ls = length ls - min puts (puts_last 0 ls)

-- the lines under a line, a turn or another
abbrev pub under_place : List ℕ → Bool → ℕ → List Outline → Option ℕ
under_place peers turn puts ls = sooner (impossible_place peers ls) (own_place turn (own_count puts ls) ls)
