-- What holds of a domain at each moment of a run of deeds, and that all that the run puts is honest.
use Rattle.std.proofs.Common.{◌≡◌, ℕ, ◌≤◌, List, [], ◌∷◌, map, refl, ap, arith}
use Rattle.std.specs.List.{AllByRecursion}
use Rattle.mc_base.specs.Limits.{creation_limit}
use Rattle.mc_base.specs.Reading.{reading, is_faulty, announces, says, Reading, brings}
use Rattle.board_model.specs.Scenario.{Neighbour}
use Rattle.board_model.specs.State.{DomainState, new_peer, opening}
use Rattle.board_model.specs.Deeds.{Deed, looks_back, puts_owed, looks_ahead, takes, calls, happens_by, after_deed, after_deeds, AllMayDo, along}
use Rattle.board_model.proofs.DeedRuns.{puts_by}
use Rattle.board_model.proofs.MessageAlls.{all-append}
use Rattle.board_model.proofs.HonestFrames.{Honest}
use Rattle.board_model.proofs.HonestSound.{PeerSound, Sound, given_changes}
use Rattle.board_model.proofs.HonestDeeds.{Hears, HearsDeed, sound_deed, deed_honest}

-- ---- the opening

new_sound : (made : ℕ) (known : ℕ → ℕ → Type 0) (ks : List Neighbour) → AllByRecursion (PeerSound made known) (map new_peer ks)
new_sound made known [] = tt
new_sound made known (k ∷ ks) = (record { announced = tt; names = tt }, new_sound made known ks)

new_numbers : (ks : List Neighbour) → map (λ p. p.number) (map new_peer ks) ≡ map (λ k. k.number) ks
new_numbers [] = refl
new_numbers (k ∷ ks) = ap (λ ms. k.number ∷ ms) (new_numbers ks)

pub sound_opening : (made : ℕ) (known : ℕ → ℕ → Type 0) (number nodes : ℕ) (ks : List Neighbour) → Sound made known (map (λ k. k.number) ks) (opening number nodes ks)
sound_opening made known number nodes ks = record { rise = omega arith; few = omega arith; apart = tt; peers = new_sound made known ks; numbers = new_numbers ks }

-- ---- a run

pub given_deeds : (s : DomainState) (ds : List Deed) → s.endpoints_given ≤ (after_deeds s ds).endpoints_given
given_deeds s [] = omega arith
given_deeds s (d ∷ ds) = omega (arith, given_changes s (happens_by s d), given_deeds (after_deed s d) ds)

module _ (made : ℕ) (known : ℕ → ℕ → Type 0) (ns : List ℕ) where
  next_within : (s : DomainState) (d : Deed) (ds : List Deed) → (after_deeds s (d ∷ ds)).endpoints_given ≤ made → (after_deed s d).endpoints_given ≤ made
  next_within s d ds within = omega (arith, given_deeds (after_deed s d) ds)

  pub sound_deeds : (s : DomainState) (ds : List Deed) → AllByRecursion (HearsDeed known) ds → (after_deeds s ds).endpoints_given ≤ made → Sound made known ns s → Sound made known ns (after_deeds s ds)
  sound_deeds s [] hears within sound = sound
  sound_deeds s (d ∷ ds) hears within sound = sound_deeds (after_deed s d) ds hears.1 within (sound_deed made known ns s sound d hears.0 (next_within s d ds within))

  -- what a run puts is honest
  abbrev pub AllHonest : List (List ℕ) → Type 0
  AllHonest fs = AllByRecursion (λ f. Honest made (reading f)) fs

  pub run_honest : (q : ℕ) (s : DomainState) (ds : List Deed) → made ≤ creation_limit → AllMayDo s ds → AllByRecursion (HearsDeed known) ds → (after_deeds s ds).endpoints_given ≤ made → Sound made known ns s → AllHonest (along (puts_by q) s ds)
  run_honest q s [] few may hears within sound = tt
  run_honest q s (d ∷ ds) few may hears within sound = all-append (λ f. Honest made (reading f)) (puts_by q s d) (along (puts_by q) (after_deed s d) ds)
      (deed_honest made known ns s sound q d few (omega (arith, given_deeds s (d ∷ ds))) may.0)
      (run_honest q (after_deed s d) ds few may.1 hears.1 within (sound_deed made known ns s sound d hears.0 (next_within s d ds within)))

-- where anything may be known, all that is heard may be
abbrev pub anything : ℕ → ℕ → Type 0
anything q a = Unit {0}

pub hears_anything : (ds : List Deed) → AllByRecursion (HearsDeed anything) ds
hears_anything [] = tt
hears_anything (d ∷ ds) = (one d, hears_anything ds)
  where
    heard : (q : ℕ) (r : Reading) → Hears anything q r
    heard q (is_faulty w) = tt
    heard q (announces text a there) = tt
    heard q (says src dst l) = tt
    heard q (brings src dst p) = tt

    one : (e : Deed) → HearsDeed anything e
    one (looks_back q n) = tt
    one (puts_owed q frame) = tt
    one (looks_ahead q n) = tt
    one (takes q name frame word) = heard q (reading frame)
    one (calls node call a) = tt
