-- Two items of a list that change together.
-- Source: plain lists, counted from 0.
use Rattle.std.specs.Prelude.{◌≡◌, ℕ, List, slice_get, slice_set, Some}

-- those at two places met, and the others stay
pub record MeetAt {A : Type 0} (Met : A → A → A → A → Type 0) (low high : ℕ) (old new : List A) : Type 0 where
  pub one : A
  pub two : A
  pub one' : A
  pub two' : A
  pub at_one : slice_get old low ≡ Some one
  pub at_two : slice_get old high ≡ Some two
  pub met : Met one two one' two'
  pub new_is : new ≡ slice_set (slice_set old low one') high two'

-- those at two places may meet
abbrev pub MayMeetAt : {A : Type 0} → (A → A → Type 0) → ℕ → ℕ → List A → Type 0
MayMeetAt {A} May low high xs = (one two : A) → slice_get xs low ≡ Some one → slice_get xs high ≡ Some two → May one two
