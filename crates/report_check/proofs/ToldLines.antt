-- What is told of the peers, with one more line.
use Rattle.std.proofs.Common.{◌≡◌, ℕ, zero, suc, ◌+◌, ◌<◌, ◌≤◌, min, Bool, true, false, cond, Bor, List, [], ◌∷◌, ◌++◌, length, map, take, set, get_or, replicate, Some, refl, sym, ap, ◌∙◌, subst, arith, append-nil, length-append, inl, inr}
use Rattle.std.specs.Prelude.{sum_by, nat_le}
use Rattle.std.specs.List.{AllByRecursion, flat_map}
use Rattle.std.proofs.lemmas.Bool.Decides.{nat_tests, eqb_tells}
use Rattle.std.proofs.lemmas.Bool.{eq-eqb, ne_eqb}
use Rattle.std.proofs.lemmas.List.{take-replicate, get_or-set_same, get_or-set_other}
use Rattle.std.proofs.lemmas.List.Sums.{sum_by_push}
use Rattle.std.proofs.lemmas.List.Concat.{flat_map-append}
use Rattle.mc_base.specs.Limits.{turn_limit}
use Rattle.report_text.specs.LaneLines.{LaneLine, came_back, puts, shows, takes, nothing, back_in}
use Rattle.report_text.specs.StepPass.{frames_coming}
use Rattle.report_check.specs.ToldTurns.{frame_on, frame_told, HasShortLines, peer_on, see_in, frames_in, IsToldOn, AreToldPeers, with_line, told_with}
use Rattle.report_check.specs.declared.told_turn.ToldPeer.{ToldPeer}

-- ---- one frame more among those that come

coming-one : (m a b : ℕ) (fs : List (List ℕ)) (f : List ℕ) → length fs < m → m ≤ a → m ≤ b → take m ((fs ++ f ∷ []) ++ replicate a (0 ∷ [])) ≡ set (take m (fs ++ replicate b (0 ∷ []))) (length fs) f
coming-one zero a b fs f few in_a in_b = absurd (omega arith)
coming-one (suc m) a zero [] f few in_a in_b = absurd (omega arith)
coming-one (suc m) a (suc b) [] f few in_a in_b =
    ap (λ (gs : List (List ℕ)). f ∷ gs) (take-replicate m a (0 ∷ []) (omega arith) ∙ sym (take-replicate m b (0 ∷ []) (omega arith)))
coming-one (suc m) a b (g ∷ fs) f few in_a in_b = ap (λ (gs : List (List ℕ)). g ∷ gs) (coming-one m a b fs f (omega arith) (omega arith) (omega arith))

coming-full : (m a b : ℕ) (fs : List (List ℕ)) (f : List ℕ) → m ≤ length fs → take m ((fs ++ f ∷ []) ++ replicate a (0 ∷ [])) ≡ take m (fs ++ replicate b (0 ∷ []))
coming-full zero a b fs f full = refl
coming-full (suc m) a b [] f full = absurd (omega arith)
coming-full (suc m) a b (g ∷ fs) f full = ap (λ (gs : List (List ℕ)). g ∷ gs) (coming-full m a b fs f (omega arith))

map-set : {A B : Type 0} (g : A → B) (xs : List A) (i : ℕ) (x : A) → map g (set xs i x) ≡ set (map g xs) i (g x)
map-set g [] i x = refl
map-set g (y ∷ ys) zero x = refl
map-set g (y ∷ ys) (suc i) x = ap (λ zs. g y ∷ zs) (map-set g ys i x)

-- ---- one line more

sum-one : (f : LaneLine → ℕ) (ks : List LaneLine) (k : LaneLine) → sum_by f (ks ++ k ∷ []) ≡ sum_by f ks + f k
sum-one f ks k = sum_by_push f ks k

frames-one : (n : ℕ) (ks : List LaneLine) (k : LaneLine) → flat_map (frames_in n) (ks ++ k ∷ []) ≡ flat_map (frames_in n) ks ++ frames_in n k
frames-one n ks k = flat_map-append (frames_in n) ks (k ∷ []) ∙ ap (λ fs. flat_map (frames_in n) ks ++ fs) (append-nil (frames_in n k))

-- a line that tells of no frame
told-look : (n : ℕ) (ks : List LaneLine) (k : LaneLine) (t u : ToldPeer) → u.back ≡ t.back + back_in n k → u.see ≡ t.see + see_in n k → frames_in n k ≡ [] → u.takes ≡ t.takes → u.count ≡ t.count → IsToldOn n ks t → IsToldOn n (ks ++ k ∷ []) u
told-look n ks k t u backs sees none same few told =
    let frames : flat_map (frames_in n) (ks ++ k ∷ []) ≡ flat_map (frames_in n) ks = frames-one n ks k ∙ (ap (λ fs. flat_map (frames_in n) ks ++ fs) none ∙ append-nil (flat_map (frames_in n) ks)) in
    record {
      back = backs ∙ (ap (λ x. x + back_in n k) told.back ∙ sym (sum-one (back_in n) ks k));
      see = sees ∙ (ap (λ x. x + see_in n k) told.see ∙ sym (sum-one (see_in n) ks k));
      frames = ap (map (λ l. frame_told l.now)) same ∙ (told.frames ∙ ap (frames_coming turn_limit) (sym frames));
      count = few ∙ (told.count ∙ ap (λ fs. min turn_limit (length fs)) (sym frames));
    }

-- and of one frame
told-frame : (n : ℕ) (ks : List LaneLine) (f : List ℕ) (line : Bor (List ℕ)) (t : ToldPeer) → frame_told line.now ≡ f → IsToldOn n ks t → IsToldOn n (ks ++ takes n f ∷ []) (with_line line t)
told-frame n ks f line t is told = go (nat_le turn_limit t.count) refl
  where
    frames : flat_map (frames_in n) (ks ++ takes n f ∷ []) ≡ flat_map (frames_in n) ks ++ f ∷ []
    frames = frames-one n ks (takes n f) ∙ ap (λ b. flat_map (frames_in n) ks ++ cond b (f ∷ []) []) (eq-eqb n n refl)

    longer : length (flat_map (frames_in n) (ks ++ takes n f ∷ [])) ≡ length (flat_map (frames_in n) ks) + 1
    longer = ap length frames ∙ length-append (flat_map (frames_in n) ks) (f ∷ [])

    backs : t.back ≡ sum_by (back_in n) (ks ++ takes n f ∷ [])
    backs = let same : sum_by (back_in n) ks ≡ sum_by (back_in n) ks + 0 = omega arith in told.back ∙ (same ∙ sym (sum-one (back_in n) ks (takes n f)))

    sees : t.see ≡ sum_by (see_in n) (ks ++ takes n f ∷ [])
    sees = let same : sum_by (see_in n) ks ≡ sum_by (see_in n) ks + 0 = omega arith in told.see ∙ (same ∙ sym (sum-one (see_in n) ks (takes n f)))

    go : (b : Bool) → nat_le turn_limit t.count ≡ b → IsToldOn n (ks ++ takes n f ∷ []) (cond b t (record t { count = t.count + 1; takes = set t.takes t.count line }))
    go true full =
        let many : turn_limit ≤ t.count = grind (arith, nat_tests) in
        let enough : turn_limit ≤ length (flat_map (frames_in n) ks) = omega (arith, told.count) in
        record {
          back = backs;
          see = sees;
          frames = told.frames ∙ (sym (coming-full turn_limit turn_limit turn_limit (flat_map (frames_in n) ks) f enough) ∙ ap (frames_coming turn_limit) (sym frames));
          count = omega (arith, told.count, longer);
        }
    go false room =
        let few : t.count < turn_limit = grind (arith, nat_tests) in
        let less : length (flat_map (frames_in n) ks) < turn_limit = omega (arith, told.count) in
        let same : t.count ≡ length (flat_map (frames_in n) ks) = omega (arith, told.count) in
        record {
          back = backs;
          see = sees;
          frames =
              map-set (λ l. frame_told l.now) t.takes t.count line
              ∙ (ap (λ gs. set gs t.count (frame_told line.now)) told.frames
              ∙ (ap (λ i. set (frames_coming turn_limit (flat_map (frames_in n) ks)) i (frame_told line.now)) same
              ∙ (ap (set (frames_coming turn_limit (flat_map (frames_in n) ks)) (length (flat_map (frames_in n) ks))) is
              ∙ (sym (coming-one turn_limit turn_limit turn_limit (flat_map (frames_in n) ks) f less (omega arith) (omega arith)) ∙ ap (frames_coming turn_limit) (sym frames)))));
          count = omega (arith, told.count, longer);
        }

-- a line of another peer, or of none
pub told-other : (n : ℕ) (ks : List LaneLine) (k : LaneLine) (t : ToldPeer) → (peer_on k ≡ Some n → ⊥) → IsToldOn n ks t → IsToldOn n (ks ++ k ∷ []) t
told-other n ks k t other told = told-look n ks k t t (kept t.back (back_in n k) (no_back k other)) (kept t.see (see_in n k) (no_see k other)) (no_frames k other) refl refl told
  where
    kept : (x y : ℕ) → y ≡ 0 → x ≡ x + y
    kept x y e = omega arith

    no_back : (k : LaneLine) → (peer_on k ≡ Some n → ⊥) → back_in n k ≡ 0
    no_back (came_back p c) other = ap (λ b. cond b c 0) (ne_eqb p n (λ e. other (ap Some e)))
    no_back (puts p f) other = refl
    no_back (shows p c) other = refl
    no_back (takes p f) other = refl
    no_back nothing other = refl

    no_see : (k : LaneLine) → (peer_on k ≡ Some n → ⊥) → see_in n k ≡ 0
    no_see (came_back p c) other = refl
    no_see (puts p f) other = refl
    no_see (shows p c) other = ap (λ b. cond b c 0) (ne_eqb p n (λ e. other (ap Some e)))
    no_see (takes p f) other = refl
    no_see nothing other = refl

    no_frames : (k : LaneLine) → (peer_on k ≡ Some n → ⊥) → frames_in n k ≡ []
    no_frames (came_back p c) other = refl
    no_frames (puts p f) other = refl
    no_frames (shows p c) other = refl
    no_frames (takes p f) other = ap (λ b. cond b (f ∷ []) []) (ne_eqb p n (λ e. other (ap Some e)))
    no_frames nothing other = refl

pub told-with : (n : ℕ) (ks : List LaneLine) (k : LaneLine) (line : Bor (List ℕ)) (t : ToldPeer) → peer_on k ≡ Some n → frame_told line.now ≡ frame_on (Some k) → IsToldOn n ks t → IsToldOn n (ks ++ k ∷ []) (told_with line k t)
told-with n ks (came_back p c) line t on is told =
    let same : p ≡ n = cc in
    let counts : t.back + c ≡ t.back + back_in n (came_back p c) = ap (λ b. t.back + cond b c 0) (sym (eq-eqb p n same)) in
    told-look n ks (came_back p c) t (record t { back = t.back + c }) counts (omega arith) refl refl refl told
told-with n ks (shows p c) line t on is told =
    let same : p ≡ n = cc in
    let counts : t.see + c ≡ t.see + see_in n (shows p c) = ap (λ b. t.see + cond b c 0) (sym (eq-eqb p n same)) in
    told-look n ks (shows p c) t (record t { see = t.see + c }) (omega arith) counts refl refl refl told
told-with n ks (takes p f) line t on is told =
    let same : n ≡ p = cc in
    subst (λ q. IsToldOn n (ks ++ takes q f ∷ []) (with_line line t)) same (told-frame n ks f line t is told)
told-with n ks (puts p f) line t on is told = absurd cc
told-with n ks nothing line t on is told = absurd cc

-- ---- all peers

pub all-with : (ts : List ToldPeer) (ks : List LaneLine) (k : LaneLine) (place : ℕ) (line : Bor (List ℕ)) (d : ToldPeer) → place < length ts → place < 8 → peer_on k ≡ Some place → frame_told line.now ≡ frame_on (Some k) → AreToldPeers ts ks → AreToldPeers (set ts place (told_with line k (get_or ts place d))) (ks ++ k ∷ [])
all-with ts ks k place line d within small on is told n other below = elim (eqb_tells n place) [
  | inl same ↦
      subst (λ t. IsToldOn n (ks ++ k ∷ []) t)
      (sym (ap (λ i. get_or (set ts place (told_with line k (get_or ts place d))) i other) same.1 ∙ get_or-set_same ts place (told_with line k (get_or ts place d)) other within))
      (told-with n ks k line (get_or ts place d) (on ∙ ap Some (sym same.1)) is (subst (λ i. IsToldOn n ks (get_or ts i d)) same.1 (told n d below)))
  | inr differ ↦
      subst (λ t. IsToldOn n (ks ++ k ∷ []) t) (sym (get_or-set_other ts place n (told_with line k (get_or ts place d)) other differ.1))
      (told-other n ks k (get_or ts n other) (λ e. differ.1 (some-same n place (sym e ∙ on))) (told n other below))
]
  where
    some-same : (x y : ℕ) → Some x ≡ Some y → x ≡ y
    some-same x y e = cc

pub all-kept : (ts : List ToldPeer) (ks : List LaneLine) (k : LaneLine) → ((n : ℕ) → n < 8 → peer_on k ≡ Some n → ⊥) → AreToldPeers ts ks → AreToldPeers ts (ks ++ k ∷ [])
all-kept ts ks k none told n other below = told-other n ks k (get_or ts n other) (none n below) (told n other below)

-- ---- how long the lines are

pub all-set : {X : Type 0} (P : X → Type 0) (xs : List X) (i : ℕ) (x : X) → AllByRecursion P xs → P x → AllByRecursion P (set xs i x)
all-set P [] i x all here = tt
all-set P (y ∷ ys) zero x all here = (here, all.1)
all-set P (y ∷ ys) (suc i) x all here = (all.0, all-set P ys i x all.1 here)

pub all-at : {X : Type 0} (P : X → Type 0) (xs : List X) (i : ℕ) (d : X) → i < length xs → AllByRecursion P xs → P (get_or xs i d)
all-at P [] i d within all = absurd (omega arith)
all-at P (y ∷ ys) zero d within all = all.0
all-at P (y ∷ ys) (suc i) d within all = all-at P ys i d (omega arith) all.1

pub short-with : (size : ℕ) (line : Bor (List ℕ)) (k : LaneLine) (t : ToldPeer) → HasShortLines size t → length line.now ≤ size → HasShortLines size (told_with line k t)
short-with size line (came_back p c) t short fits = short
short-with size line (shows p c) t short fits = short
short-with size line (puts p f) t short fits = short
short-with size line nothing t short fits = short
short-with size line (takes p f) t short fits = go (nat_le turn_limit t.count)
  where
    go : (b : Bool) → HasShortLines size (cond b t (record t { count = t.count + 1; takes = set t.takes t.count line }))
    go true = short
    go false = all-set (λ (l : Bor (List ℕ)). length l.now ≤ size) t.takes t.count line short fits

-- ---- peers that are the same

pub all-same : {X : Type 0} (P : X → Type 0) (x other : X) (k n : ℕ) → n < k → P x → P (get_or (replicate k x) n other)
all-same P x other zero n below here = absurd (omega arith)
all-same P x other (suc k) zero below here = here
all-same P x other (suc k) (suc n) below here = all-same P x other k n (omega arith) here

pub all-of : {X : Type 0} (P : X → Type 0) (x : X) (k : ℕ) → P x → AllByRecursion P (replicate k x)
all-of P x zero here = tt
all-of P x (suc k) here = (here, all-of P x k here)
