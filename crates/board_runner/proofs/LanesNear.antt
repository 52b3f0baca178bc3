-- The loads of lanes by what stands near at both of their ends, before and after a visit.
use Rattle.std.proofs.Common.{◌≡◌, ℕ, ◌+◌, Bool, true, false, ◌&&◌, cond, List, [], ◌∷◌, ◌++◌, length, drop, Some, refl, sym, ap, ◌∙◌, subst, arith, append_assoc, eq-eqb, eqb-true, true≢false}
use Rattle.std.specs.Prelude.{◌==◌}
use Rattle.std.proofs.Math.Seq.{drop-append_seam}
use Rattle.std.proofs.lemmas.List.{length-map}
use Rattle.board_model.specs.Journal.{Visit, Taken}
use Rattle.board_model.specs.Loads.{Load, with_load}
use Rattle.board_model.proofs.WholeLoads.{load_on, loaded-with}
use Rattle.board_model.proofs.WholeLanes.{refilled}
use Rattle.board_model.proofs.WholeTakes.{frames_of, emptied}
use Rattle.board_runner.specs.Near.{Near}
use Rattle.board_runner.proofs.NearEnds.{NearVisited, LinkVisited, OwnVisited}

-- the load of a lane is what its ends did: the sender's, and the receiver's
pub record LaneStands (loads : List Load) (a b : ℕ) (from to : Near) : Type 0 where
  pub load : Load
  pub loaded : load_on loads a b ≡ Some load
  pub frames : from.sent.put ≡ to.got.taken ++ load.frames
  pub returned : to.got.given ≡ from.sent.back + load.returned

-- a visit of a link saw and took just what was there, by what was done before it and by what the peer did
pub record Exact (v : Visit) (old far : Near) : Type 0 where
  pub rest : List (List ℕ)
  pub first : far.sent.put ≡ (old.got.taken ++ frames_of v.takes) ++ rest
  pub see : length old.got.taken + v.see ≡ length far.sent.put
  pub back : old.sent.back + v.back ≡ far.got.given

-- what stands near a domain towards each peer, beside what stands near the others
abbrev pub near_now : ℕ → (ℕ → Near) → (ℕ → ℕ → Near) → ℕ → ℕ → Near
near_now n own far a b = cond (a == n) (own b) (far a b)

-- the same with what stands near towards one peer
abbrev pub with_near : ℕ → Near → (ℕ → Near) → ℕ → Near
with_near p new own q = cond (q == p) new (own q)

-- what a visit of a domain leaves on the lanes, by how many buffers it gives back
abbrev pub loads_by : ℕ → Visit → ℕ → List Load → List Load
loads_by n v gave loads = with_load v.peer n (emptied gave v.takes) (with_load n v.peer (refilled v.owed) loads)

pub loaded-by : (n : ℕ) (v : Visit) (gave : ℕ) (loads : List Load) (a b : ℕ) (l : Load) → load_on loads a b ≡ Some l →
    (let put = cond ((a == n) && (b == v.peer)) (refilled v.owed l) l in load_on (loads_by n v gave loads) a b ≡ Some (cond ((a == v.peer) && (b == n)) (emptied gave v.takes put) put))
loaded-by n v gave loads a b l e =
    loaded-with (emptied gave v.takes) (record { sender = λ x. refl; receiver = λ x. refl }) (with_load n v.peer (refilled v.owed) loads) v.peer n a b (cond ((a == n) && (b == v.peer)) (refilled v.owed l) l)
    (loaded-with (refilled v.owed) (record { sender = λ x. refl; receiver = λ x. refl }) loads n v.peer a b l e)

-- ---- one lane

taken-off : (ts : List Taken) (frames rest : List (List ℕ)) → frames ≡ frames_of ts ++ rest → drop (length ts) frames ≡ rest
taken-off ts frames rest e = ap (drop (length ts)) e ∙ ap (λ (k : ℕ). drop k (frames_of ts ++ rest)) (sym (length-map ts (λ (t : Taken). t.frame))) ∙ drop-append_seam (frames_of ts) rest

cancel_front : {A : Type 0} (xs ys zs : List A) → xs ++ ys ≡ xs ++ zs → ys ≡ zs
cancel_front [] ys zs e = e
cancel_front (x ∷ xs) ys zs e = cancel_front xs ys zs cc

-- what is on a lane, where so many frames of it are the first
pub rest-on : (taken frames first rest : List (List ℕ)) (put : List (List ℕ)) → put ≡ taken ++ frames → put ≡ (taken ++ first) ++ rest → frames ≡ first ++ rest
rest-on taken frames first rest put is split = cancel_front taken frames (first ++ rest) (sym is ∙ split ∙ append_assoc taken first rest)

module _ (loads loads' : List Load) (a b : ℕ) (v : Visit) (gave : ℕ) where
  -- the lane to the peer
  lane-out : (from to new : Near) (h : LaneStands loads a b from to) → LinkVisited gave v from new → Exact v from to → load_on loads' a b ≡ Some (refilled v.owed h.load) → LaneStands loads' a b new to
  lane-out from to new h visited exact loaded = record {
    load = refilled v.owed h.load;
    loaded = loaded;
    frames = visited.sent.put ∙ ap (λ (fs : List (List ℕ)). fs ++ v.owed) h.frames ∙ append_assoc to.got.taken h.load.frames v.owed;
    returned = omega (arith, visited.sent.back_is, exact.back);
  }

  -- the lane from the peer
  lane-in : (from to new : Near) (h : LaneStands loads a b from to) → LinkVisited gave v to new → Exact v to from → load_on loads' a b ≡ Some (emptied gave v.takes h.load) → LaneStands loads' a b from new
  lane-in from to new h visited exact loaded = record {
    load = emptied gave v.takes h.load;
    loaded = loaded;
    frames =
        exact.first ∙ (λ k. sym visited.got.taken k ++ exact.rest)
        ∙ ap (λ (fs : List (List ℕ)). new.got.taken ++ fs) (sym (taken-off v.takes h.load.frames exact.rest (rest-on to.got.taken h.load.frames (frames_of v.takes) exact.rest from.sent.put h.frames exact.first)));
    returned = omega (arith, h.returned, visited.got.given);
  }

  -- the own lane
  lane-own : (from own new : Near) (h : LaneStands loads a b from own) → from ≡ own → OwnVisited gave v own new → load_on loads' a b ≡ Some (emptied gave v.takes (refilled v.owed h.load)) → LaneStands loads' a b new new
  lane-own from own new h same visited loaded =
      let frames : own.sent.put ≡ h.load.frames = ap (λ (n : Near). n.sent.put) (sym same) ∙ h.frames ∙ ap (λ (fs : List (List ℕ)). fs ++ h.load.frames) visited.was.taken in
      record {
        load = emptied gave v.takes (refilled v.owed h.load);
        loaded = loaded;
        frames =
            sym (taken-off v.takes (h.load.frames ++ v.owed) new.sent.put (ap (λ (fs : List (List ℕ)). fs ++ v.owed) (sym frames) ∙ visited.came))
            ∙ ap (λ (fs : List (List ℕ)). fs ++ drop (length v.takes) (h.load.frames ++ v.owed)) (sym visited.is.taken);
        returned = omega (arith, visited.given, visited.is.back);
      }

  lane-other : (from to : Near) (h : LaneStands loads a b from to) → load_on loads' a b ≡ Some h.load → LaneStands loads' a b from to
  lane-other from to h loaded = record { load = h.load; loaded = loaded; frames = h.frames; returned = h.returned }

-- ---- every lane

-- a visit of a link is exact
pub record CanVisit (n : ℕ) (own : ℕ → Near) (far : ℕ → ℕ → Near) (v : Visit) (gave : ℕ) (new : Near) : Type 0 where
  pub visited : NearVisited (v.peer == n) gave v (own v.peer) new
  pub exact : (v.peer == n) ≡ false → Exact v (own v.peer) (far v.peer n)

module _ (n : ℕ) (own : ℕ → Near) (far : ℕ → ℕ → Near) (v : Visit) (gave : ℕ) (new : Near) (loads : List Load) (can : CanVisit n own far v gave new) where
  visited_at : (q : ℕ) (o : Bool) → (q == v.peer) ≡ true → (q == n) ≡ o → NearVisited o gave v (own q) new
  visited_at q o at is = subst (λ (x : Bool). NearVisited x gave v (own q) new) is (subst (λ (m : ℕ). NearVisited (m == n) gave v (own m) new) (sym (eqb-true q v.peer at)) can.visited)

  exact_at : (q m : ℕ) → (q == v.peer) ≡ true → (q == n) ≡ false → (m == n) ≡ true → Exact v (own q) (far q m)
  exact_at q m at other is_n =
      let same = eqb-true q v.peer at in
      subst (λ (y : ℕ). Exact v (own q) (far q y)) (sym (eqb-true m n is_n))
      (subst (λ (x : ℕ). Exact v (own x) (far x n)) (sym same) (can.exact (ap (λ (x : ℕ). x == n) (sym same) ∙ other)))

  -- by whether each end is the domain, and whether it is the peer
  lane_by : (a b : ℕ) (a_own b_own a_peer b_peer : Bool) → (a == n) ≡ a_own → (b == n) ≡ b_own → (a == v.peer) ≡ a_peer → (b == v.peer) ≡ b_peer
      → (h : LaneStands loads a b (cond a_own (own b) (far a b)) (cond b_own (own a) (far b a)))
      → load_on (loads_by n v gave loads) a b ≡ Some (cond (a_peer && b_own) (emptied gave v.takes (cond (a_own && b_peer) (refilled v.owed h.load) h.load)) (cond (a_own && b_peer) (refilled v.owed h.load) h.load))
      → LaneStands (loads_by n v gave loads) a b (cond a_own (cond b_peer new (own b)) (far a b)) (cond b_own (cond a_peer new (own a)) (far b a))
  lane_by a b true true true true a_is b_is a_at b_at h loaded =
      lane-own loads (loads_by n v gave loads) a b v gave (own b) (own a) new h (ap own (eqb-true b v.peer b_at ∙ sym (eqb-true a v.peer a_at))) (visited_at a true a_at a_is) loaded
  lane_by a b true true true false a_is b_is a_at b_at h loaded = absurd (true≢false (sym (eq-eqb b v.peer (eqb-true b n b_is ∙ sym (eqb-true a n a_is) ∙ eqb-true a v.peer a_at)) ∙ b_at))
  lane_by a b true true false true a_is b_is a_at b_at h loaded = absurd (true≢false (sym (eq-eqb a v.peer (eqb-true a n a_is ∙ sym (eqb-true b n b_is) ∙ eqb-true b v.peer b_at)) ∙ a_at))
  lane_by a b true true false false a_is b_is a_at b_at h loaded = lane-other loads (loads_by n v gave loads) a b v gave (own b) (own a) h loaded
  lane_by a b true false true true a_is b_is a_at b_at h loaded = lane-out loads (loads_by n v gave loads) a b v gave (own b) (far b a) new h (visited_at b false b_at b_is) (exact_at b a b_at b_is a_is) loaded
  lane_by a b true false false true a_is b_is a_at b_at h loaded = lane-out loads (loads_by n v gave loads) a b v gave (own b) (far b a) new h (visited_at b false b_at b_is) (exact_at b a b_at b_is a_is) loaded
  lane_by a b true false true false a_is b_is a_at b_at h loaded = lane-other loads (loads_by n v gave loads) a b v gave (own b) (far b a) h loaded
  lane_by a b true false false false a_is b_is a_at b_at h loaded = lane-other loads (loads_by n v gave loads) a b v gave (own b) (far b a) h loaded
  lane_by a b false true true b_peer a_is b_is a_at b_at h loaded = lane-in loads (loads_by n v gave loads) a b v gave (far a b) (own a) new h (visited_at a false a_at a_is) (exact_at a b a_at a_is b_is) loaded
  lane_by a b false true false b_peer a_is b_is a_at b_at h loaded = lane-other loads (loads_by n v gave loads) a b v gave (far a b) (own a) h loaded
  lane_by a b false false true b_peer a_is b_is a_at b_at h loaded = lane-other loads (loads_by n v gave loads) a b v gave (far a b) (far b a) h loaded
  lane_by a b false false false b_peer a_is b_is a_at b_at h loaded = lane-other loads (loads_by n v gave loads) a b v gave (far a b) (far b a) h loaded

  -- a visit leaves each lane at its ends
  pub lane-visited : (a b : ℕ) → LaneStands loads a b (near_now n own far a b) (near_now n own far b a) → LaneStands (loads_by n v gave loads) a b (near_now n (with_near v.peer new own) far a b) (near_now n (with_near v.peer new own) far b a)
  lane-visited a b h = lane_by a b (a == n) (b == n) (a == v.peer) (b == v.peer) refl refl refl refl h (loaded-by n v gave loads a b h.load h.loaded)
