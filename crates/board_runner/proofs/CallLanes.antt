-- A lane after a call of one of its domains: the frames that it puts and the buffers that it gives back stand at the lane's ends.
use Rattle.std.proofs.Common.{◌≡◌, ℕ, ◌+◌, Bool, true, false, cond, List, [], ◌++◌, length, Some, refl, sym, ap, ap₂, ◌∙◌, subst, arith, append_assoc, append-nil, eqb-true, eq-eqb}
use Rattle.std.specs.Prelude.{◌==◌}
use Rattle.board_model.specs.State.{Item, frames_from}
use Rattle.board_model.specs.Loads.{Load, loads_given}
use Rattle.board_model.specs.SerialRun.{loads_with_puts}
use Rattle.board_model.proofs.WholeLoads.{load_on}
use Rattle.board_model.proofs.WholeCalls.{frames_for, loaded-puts, loaded-given}
use Rattle.board_runner.specs.Near.{Near}
use Rattle.board_runner.proofs.LanesNear.{LaneStands, near_now}
use Rattle.board_runner.proofs.NearCalled.{NearCalled, LinkCalled, OwnCalled}

-- what a call of a domain leaves on the lanes
abbrev pub loads_called : ℕ → List (ℕ × List ℕ) → List Item → List Load → List Load
loads_called n puts items loads = loads_given n items (loads_with_puts n puts loads)

-- the load of a lane, where its sender put frames and its receiver gave buffers back
abbrev pub called_load : Bool → Bool → List (List ℕ) → ℕ → Load → Load
called_load sends receives frames many l = record l { frames = l.frames ++ cond sends frames []; returned = l.returned + cond receives many 0 }

loaded_called : (n : ℕ) (puts : List (ℕ × List ℕ)) (items : List Item) (loads : List Load) (a b : ℕ) (l : Load) → load_on loads a b ≡ Some l → load_on (loads_called n puts items loads) a b ≡ Some (called_load (a == n) (b == n) (frames_for b puts) (length (frames_from a items)) l)
loaded_called n puts items loads a b l at =
    loaded-given n items (loads_with_puts n puts loads) a b (record l { frames = l.frames ++ cond (a == n) (frames_for b puts) [] }) (loaded-puts n puts loads a b l at)

module _ (loads loads' : List Load) (a b : ℕ) (frames : List (List ℕ)) (many : ℕ) where
  -- the lane to a peer
  lane-out : (from to new : Near) (k : ℕ) (h : LaneStands loads a b from to) → LinkCalled frames k from new → load_on loads' a b ≡ Some (called_load true false frames many h.load) → LaneStands loads' a b new to
  lane-out from to new k h called loaded = record {
    load = called_load true false frames many h.load;
    loaded = loaded;
    frames = called.sent.put ∙ ap (λ (fs : List (List ℕ)). fs ++ frames) h.frames ∙ append_assoc to.got.taken h.load.frames frames;
    returned = omega (arith, h.returned, called.sent.back);
  }

  -- the lane from a peer
  lane-in : (from to new : Near) (fs : List (List ℕ)) (h : LaneStands loads a b from to) → LinkCalled fs many to new → load_on loads' a b ≡ Some (called_load false true frames many h.load) → LaneStands loads' a b from new
  lane-in from to new fs h called loaded = record {
    load = called_load false true frames many h.load;
    loaded = loaded;
    frames = h.frames ∙ ap₂ (λ (xs ys : List (List ℕ)). xs ++ ys) (sym called.got.taken) (sym (append-nil h.load.frames));
    returned = omega (arith, h.returned, called.got.given);
  }

  -- the own lane
  lane-own : (own new : Near) (h : LaneStands loads a b own own) → OwnCalled frames many own new → load_on loads' a b ≡ Some (called_load true true frames many h.load) → LaneStands loads' a b new new
  lane-own own new h called loaded = record {
    load = called_load true true frames many h.load;
    loaded = loaded;
    frames =
        called.put ∙ ap (λ (fs : List (List ℕ)). fs ++ frames) h.frames ∙ append_assoc own.got.taken h.load.frames frames
        ∙ ap (λ (fs : List (List ℕ)). fs ++ (h.load.frames ++ frames)) (sym called.taken);
    returned = omega (arith, h.returned, called.back, called.given);
  }

  lane-other : (from to : Near) (h : LaneStands loads a b from to) → load_on loads' a b ≡ Some (called_load false false frames many h.load) → LaneStands loads' a b from to
  lane-other from to h loaded = record {
    load = called_load false false frames many h.load;
    loaded = loaded;
    frames = h.frames ∙ ap (λ (fs : List (List ℕ)). to.got.taken ++ fs) (sym (append-nil h.load.frames));
    returned = omega (arith, h.returned);
  }

module _ (n : ℕ) (own own' : ℕ → Near) (far : ℕ → ℕ → Near) (puts : List (ℕ × List ℕ)) (items : List Item) (loads : List Load) where
  abbrev Called : ℕ → Type 0
  Called q = NearCalled (q == n) (frames_for q puts) (length (frames_from q items)) (own q) (own' q)

  abbrev loads' : List Load
  loads' = loads_called n puts items loads

  called_as : (q : ℕ) (x : Bool) → (q == n) ≡ x → Called q → NearCalled x (frames_for q puts) (length (frames_from q items)) (own q) (own' q)
  called_as q x is called = subst (λ (o : Bool). NearCalled o (frames_for q puts) (length (frames_from q items)) (own q) (own' q)) is called

  -- what holds of the lane between two domains that are both the one holds of its own lane
  abbrev OwnLane : ℕ → ℕ → Type 0
  OwnLane a b = (h : LaneStands loads a b (own b) (own a)) → load_on loads' a b ≡ Some (called_load true true (frames_for b puts) (length (frames_from a items)) h.load) → LaneStands loads' a b (own' b) (own' a)

  own_lane : (a b : ℕ) → a ≡ n → b ≡ n → Called n → OwnLane a b
  own_lane a b is_a is_b called =
      subst (λ (x : ℕ). OwnLane x b) (sym is_a)
      (subst (λ (y : ℕ). OwnLane n y) (sym is_b)
      (λ h loaded. lane-own loads loads' n n (frames_for n puts) (length (frames_from n items)) (own n) (own' n) h (called_as n true (eq-eqb n n refl) called) loaded))

  -- a lane from the domain leads to a peer, and one to it comes from a peer, so the call is told at both
  pub lane-called : (a b : ℕ) → (a ≡ n → Called b) → (b ≡ n → Called a) → LaneStands loads a b (near_now n own far a b) (near_now n own far b a) → LaneStands loads' a b (near_now n own' far a b) (near_now n own' far b a)
  lane-called a b to from h = go (a == n) (b == n) refl refl h (loaded_called n puts items loads a b h.load h.loaded)
    where
      go : (x y : Bool) → (a == n) ≡ x → (b == n) ≡ y → (h : LaneStands loads a b (cond x (own b) (far a b)) (cond y (own a) (far b a)))
          → load_on loads' a b ≡ Some (called_load x y (frames_for b puts) (length (frames_from a items)) h.load) → LaneStands loads' a b (cond x (own' b) (far a b)) (cond y (own' a) (far b a))
      go true true e f h loaded =
          let is_a = eqb-true a n e in
          let is_b = eqb-true b n f in
          own_lane a b is_a is_b (subst Called is_b (to is_a)) h loaded
      go true false e f h loaded = lane-out loads loads' a b (frames_for b puts) (length (frames_from a items)) (own b) (far b a) (own' b) (length (frames_from b items)) h (called_as b false f (to (eqb-true a n e))) loaded
      go false true e f h loaded = lane-in loads loads' a b (frames_for b puts) (length (frames_from a items)) (far a b) (own a) (own' a) (frames_for a puts) h (called_as a false e (from (eqb-true b n f))) loaded
      go false false e f h loaded = lane-other loads loads' a b (frames_for b puts) (length (frames_from a items)) (far a b) (far b a) h loaded
