-- The order of each domain's events among themselves, and of the calls of all where they are answered in the scenario's order.
-- Source: docs/FORMATS.md, "Journal text"; docs/PROFILE.md, "Serial run".
use Rattle.std.specs.Prelude.{◌≡◌, ◌+◌, ◌<◌, ◌==◌, ℕ, List, [], ◌∷◌, Bool, true, false, ◌&&◌, if◌then◌else◌, nat_lt, take}
use Rattle.mc_base.specs.Limits.{domain_limit}
use Rattle.event_order.specs.declared.event.Event.{Event}
use Rattle.event_order.specs.declared.event.What.{What}
use Rattle.event_order.specs.declared.event.What.TheVariants.{Answer}

-- the numbers of a domain's events rise, from this one on
abbrev pub rise : ℕ → ℕ → List Event → Bool
rise d least [] = true
rise d least (e ∷ es) = if e.domain == d then (if nat_lt e.number least then false else rise d (e.number + 1) es) else rise d least es

abbrev pub AllRise : List Event → Type 0
AllRise es = (d : ℕ) → d < domain_limit → rise d 0 es ≡ true

-- the event at this place is the first of its domain whose number does not rise
pub record Falls (es : List Event) (p : ℕ) : Type 0 where
  pub domain : ℕ
  pub is_domain : domain < domain_limit
  pub before : rise domain 0 (take p es) ≡ true
  pub with_it : rise domain 0 (take (p + 1) es) ≡ false

-- ---- where calls are answered in the scenario's order

abbrev pub is_next : ℕ → What → Bool
is_next next (Answer call refused) = call == next
is_next next other = true

abbrev pub next_behind : ℕ → What → ℕ
next_behind next (Answer call refused) = next + 1
next_behind next other = next

-- the calls that are answered are those of the scenario, one after the other, from this one on
abbrev pub in_turn : ℕ → List Event → Bool
in_turn next [] = true
in_turn next (e ∷ es) = is_next next e.what && in_turn (next_behind next e.what) es

-- the event at this place is the first that answers another call
pub record IsOutOfTurn (es : List Event) (p : ℕ) : Type 0 where
  pub before : in_turn 0 (take p es) ≡ true
  pub with_it : in_turn 0 (take (p + 1) es) ≡ false
