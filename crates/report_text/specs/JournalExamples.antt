-- Examples of journals whose lines are out of place. Line 1 of the script sends a frame, line 2 none; the domain has the peers 0 and 1.
use Rattle.std.specs.Prelude.{◌≡◌, ℕ, true, false, List, [], ◌∷◌, None, Some, Option}
use Rattle.mc_base.specs.declared.refusal.Refusal.TheVariants as refusal
use Rattle.report_text.specs.declared.outline.Outline.{Outline}
use Rattle.report_text.specs.declared.outline.Outline.TheVariants as outline
use Rattle.report_text.specs.JournalOrder.{journal_place}

abbrev pub place_in : List Outline → Option ℕ
place_in ls = journal_place (0 ∷ 1 ∷ []) (1 ∷ 0 ∷ []) ls

-- idle turns and tries
pub record Joins : Type 0 where
  pub two_idles : place_in (outline.Idle 1 ∷ outline.Idle 1 ∷ []) ≡ Some 1
  pub idle_and_spin : place_in (outline.Idle 3 ∷ outline.Spin 1 refusal.Empty ∷ []) ≡ Some 1
  pub two_spins : place_in (outline.Spin 1 refusal.Empty ∷ outline.Spin 1 refusal.Empty ∷ []) ≡ Some 1
  pub other_spins : place_in (outline.Spin 1 refusal.Empty ∷ outline.Spin 1 refusal.NoBuffer ∷ []) ≡ None
  pub idle_and_try : place_in (outline.Idle 1 ∷ outline.Again refusal.Empty ∷ []) ≡ Some 1
  pub idles_and_try : place_in (outline.Idle 2 ∷ outline.Again refusal.Empty ∷ []) ≡ None
  pub try_and_spin : place_in (outline.Idle 2 ∷ outline.Again refusal.Empty ∷ outline.Spin 1 refusal.Empty ∷ []) ≡ None
  pub greatest : place_in (outline.Idle 18446744073709551615 ∷ outline.Idle 1 ∷ []) ≡ None
  pub no_idle : place_in (outline.Idle 0 ∷ []) ≡ Some 0
  pub no_spin : place_in (outline.Spin 0 refusal.Empty ∷ []) ≡ Some 0

-- puts of turns and of calls
pub record Puts : Type 0 where
  pub right : place_in (outline.Idle 2 ∷ outline.Put 0 ∷ outline.Call 1 false ∷ outline.Turn ∷ outline.See 0 1 ∷ outline.Take 0 ∷ outline.Call 2 false ∷ []) ≡ None
  pub put_alone : place_in (outline.Turn ∷ outline.Put 0 ∷ outline.Call 1 false ∷ []) ≡ Some 2
  pub owed_and_put : place_in (outline.Turn ∷ outline.Put 0 ∷ outline.Put 0 ∷ outline.Call 1 false ∷ []) ≡ None
  pub refused_put : place_in (outline.Turn ∷ outline.Put 0 ∷ outline.Call 1 true ∷ []) ≡ None
  pub no_call : place_in (outline.Idle 1 ∷ outline.Put 0 ∷ outline.Idle 1 ∷ []) ≡ Some 2
  pub two_puts : place_in (outline.Idle 1 ∷ outline.Put 0 ∷ outline.Put 0 ∷ outline.Call 1 false ∷ []) ≡ Some 3
  pub late_put : place_in (outline.Turn ∷ outline.See 1 1 ∷ outline.Take 1 ∷ outline.Put 0 ∷ outline.Back 1 1 ∷ []) ≡ Some 4
  pub late_puts : place_in (outline.Turn ∷ outline.Put 1 ∷ outline.Put 0 ∷ outline.Put 0 ∷ outline.Call 1 false ∷ []) ≡ Some 4
  pub put_to_none : place_in (outline.Idle 1 ∷ outline.Put 5 ∷ outline.Call 1 false ∷ []) ≡ Some 1
  pub no_turn : place_in (outline.Put 0 ∷ outline.Call 1 false ∷ []) ≡ None
  pub no_line : place_in (outline.Idle 1 ∷ outline.Put 0 ∷ outline.Call 9 false ∷ []) ≡ Some 2

-- the lines of turns
pub record Turns : Type 0 where
  pub right : place_in (outline.Turn ∷ outline.Back 0 2 ∷ outline.Put 0 ∷ outline.Put 0 ∷ outline.See 1 1 ∷ outline.Take 1 ∷ []) ≡ None
  pub empty : place_in (outline.Turn ∷ outline.Call 2 false ∷ []) ≡ Some 1
  pub at_the_end : place_in (outline.Turn ∷ []) ≡ Some 1
  pub missing_take : place_in (outline.Turn ∷ outline.See 0 1 ∷ outline.Call 2 false ∷ []) ≡ Some 2
  pub put_for_take : place_in (outline.Turn ∷ outline.See 0 1 ∷ outline.Put 0 ∷ outline.Call 1 false ∷ []) ≡ Some 2
  pub take_too_many : place_in (outline.Turn ∷ outline.See 0 1 ∷ outline.Take 0 ∷ outline.Take 0 ∷ []) ≡ Some 3
  pub take_of_another : place_in (outline.Turn ∷ outline.See 0 1 ∷ outline.Take 1 ∷ []) ≡ Some 2
  pub take_without_see : place_in (outline.Turn ∷ outline.Take 0 ∷ []) ≡ Some 1
  pub falls_back : place_in (outline.Turn ∷ outline.Back 1 1 ∷ outline.Back 0 1 ∷ []) ≡ Some 2
  pub two_backs : place_in (outline.Turn ∷ outline.Back 1 1 ∷ outline.Back 1 1 ∷ []) ≡ Some 2
  pub no_peer : place_in (outline.Turn ∷ outline.Back 5 1 ∷ []) ≡ Some 1
  pub no_count : place_in (outline.Turn ∷ outline.Back 0 0 ∷ []) ≡ Some 1
  pub idle_with_lines : place_in (outline.Idle 1 ∷ outline.Back 0 1 ∷ []) ≡ Some 1
  pub no_head : place_in (outline.Back 0 1 ∷ []) ≡ Some 0
