-- The owed frames that are put to a peer.
use Rattle.std.proofs.Common.{◌≡◌, ℕ, zero, suc, ◌-◌, ◌<◌, min, cond, List, [], ◌∷◌, take, drop, Option, None, Some, refl, sym, ap, ◌∙◌, arith, eq-eqb}
use Rattle.std.specs.Prelude.{option_map, slice_get, unwrap_or, ◌==◌}
use Rattle.board_model.specs.State.{Peer, DomainState, peer_of, free_to, owed_to}
use Rattle.board_model.specs.Change.{first_put, owed_put, changed}
use Rattle.board_model.proofs.LanePeers.{peer_found, peer-changed, first-free}
use Rattle.board_model.proofs.VisitLooks.{put_owed}
use Rattle.report_check.specs.Doing.{owed_first}

-- ---- what is owed after a put. The first two are as in board_model's VisitLooks

first-taken : (most free : ℕ) (frame : List ℕ) (owed : List (List ℕ)) → 0 < most → 0 < free → slice_get owed 0 ≡ Some frame → take (min most free) owed ≡ frame ∷ take (min (most - 1) (free - 1)) (drop 1 owed)
first-taken most free frame [] some room e = absurd cc
first-taken most free frame (f ∷ fs) some room e =
    let same : f ≡ frame = cc in
    let more : min most free ≡ suc (min (most - 1) (free - 1)) = omega arith in
    ap (λ n. take n (f ∷ fs)) more ∙ ap (λ (g : List ℕ). g ∷ take (min (most - 1) (free - 1)) fs) same

pub owed-one : (most domain : ℕ) (p : Peer) (frame : List ℕ) → 0 < most → 0 < p.free → slice_get (owed_to domain p) 0 ≡ Some frame → owed_first most domain p ≡ frame ∷ owed_first (most - 1) domain (first_put p)
owed-one most domain p frame some room e =
    first-taken most p.free frame (owed_to domain p) some room e
    ∙ (ap (λ n. frame ∷ take (min (most - 1) n) (drop 1 (owed_to domain p))) (sym (first-free p))
    ∙ ap (λ fs. frame ∷ take (min (most - 1) (first_put p).free) fs) (sym (put_owed domain p p.announcements)))

none-taken : (n : ℕ) (owed : List (List ℕ)) → slice_get owed 0 ≡ None → take n owed ≡ []
none-taken zero [] e = refl
none-taken (suc n) [] e = refl
none-taken n (f ∷ fs) e = absurd cc

-- none is put where none is owed, none may be put, or no buffer is free
pub owed-none : (most domain : ℕ) (p : Peer) → slice_get (owed_to domain p) 0 ≡ None → owed_first most domain p ≡ []
owed-none most domain p e = none-taken (min most p.free) (owed_to domain p) e

pub owed-few : (most domain : ℕ) (p : Peer) → min most p.free ≡ 0 → owed_first most domain p ≡ []
owed-few most domain p e = ap (λ n. take n (owed_to domain p)) e

-- ---- the peer

pub free-of : (s : DomainState) (n : ℕ) (p : Peer) → peer_of s n ≡ Some p → free_to s n ≡ p.free
free-of s n p e = ap (λ (o : Option Peer). unwrap_or (option_map (λ x. x.free) o) 0) e

pub peer-put : (s : DomainState) (n : ℕ) (p : Peer) → peer_of s n ≡ Some p → peer_of (changed s (owed_put n)) n ≡ Some (first_put p)
peer-put s n p e =
    peer_found (changed s (owed_put n)) n
    ∙ (peer-changed s (owed_put n) n
    ∙ (ap (option_map (λ (q : Peer). cond (n == n) (first_put q) q)) (sym (peer_found s n) ∙ e)
    ∙ ap (λ b. Some (cond b (first_put p) p)) (eq-eqb n n refl)))
