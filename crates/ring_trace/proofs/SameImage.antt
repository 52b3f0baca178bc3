-- An image has the values below the size, and no others.
use Rattle.std.proofs.Common.{◌≡◌, ◌<◌, ℕ, List, [], ◌∷◌, ◌++◌, arith}
use Rattle.byteorder.specs.Endian.{little_bytes}
use Rattle.board_model.specs.RingImage.{Values, image, descriptor, offered_entry, used_element, for_each}
use Rattle.ring_trace.proofs.Tables.{same-row}

-- the values agree in all fields of an image
pub record Agree (size : ℕ) (v u : Values) : Type 0 where
  pub addr : (i : ℕ) → i < size → v.addr i ≡ u.addr i
  pub len : (i : ℕ) → i < size → v.len i ≡ u.len i
  pub flags : (i : ℕ) → i < size → v.flags i ≡ u.flags i
  pub next : (i : ℕ) → i < size → v.next i ≡ u.next i
  pub avail_flags : v.avail_flags ≡ u.avail_flags
  pub avail_idx : v.avail_idx ≡ u.avail_idx
  pub avail_ring : (p : ℕ) → p < size → v.avail_ring p ≡ u.avail_ring p
  pub used_flags : v.used_flags ≡ u.used_flags
  pub used_idx : v.used_idx ≡ u.used_idx
  pub used_id : (p : ℕ) → p < size → v.used_id p ≡ u.used_id p
  pub used_len : (p : ℕ) → p < size → v.used_len p ≡ u.used_len p

same-each : (f g : ℕ → List ℕ) (size : ℕ) → ((j : ℕ) → j < size → f j ≡ g j) → for_each f size ≡ for_each g size
same-each f g size same = same-row f g 0 size (λ j low high. same j (omega (arith, high)))

pub same_image : (size : ℕ) (v u : Values) → Agree size v u → image size v ≡ image size u
same_image size v u a =
    let descriptors : for_each (descriptor v) size ≡ for_each (descriptor u) size = same-each (descriptor v) (descriptor u) size (λ j low.
    λ t. little_bytes 8 (a.addr j low t) ++ (little_bytes 4 (a.len j low t) ++ (little_bytes 2 (a.flags j low t) ++ little_bytes 2 (a.next j low t)))) in
    let offered : for_each (offered_entry v) size ≡ for_each (offered_entry u) size = same-each (offered_entry v) (offered_entry u) size (λ j low. λ t. little_bytes 2 (a.avail_ring j low t)) in
    let used : for_each (used_element v) size ≡ for_each (used_element u) size = same-each (used_element v) (used_element u) size (λ j low. λ t. little_bytes 4 (a.used_id j low t) ++ little_bytes 4 (a.used_len j low t)) in
    λ t. descriptors t
    ++ (little_bytes 2 (a.avail_flags t) ++ (little_bytes 2 (a.avail_idx t) ++ (offered t ++ (0 ∷ 0 ∷ 0 ∷ 0 ∷
    (little_bytes 2 (a.used_flags t) ++ (little_bytes 2 (a.used_idx t) ++ (used t ++ (0 ∷ 0 ∷ []))))))))
