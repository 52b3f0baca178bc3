-- What frames say one after the other, with the parts that are open between them.
use Rattle.std.proofs.Common.{◌≡◌, ◌⊎◌, inl, inr, ℕ, zero, suc, ◌+◌, ◌-◌, ◌≤◌, ◌<◌, arith, Bool, true, false, cond, List, [], ◌∷◌, ◌++◌, length, map, take, drop, length-append, length-take, length-drop, take-append-drop, take_all, append_assoc, Option, Some, None, refl, sym, ap, ◌∙◌, subst}
use Rattle.std.specs.Prelude.{◌==◌}
use Rattle.mc_base.specs.Letter.{Carrier, of_message, of_packet, carried, Piece, piece}
use Rattle.mc_base.specs.Reading.{Reading, is_faulty, announces, says, brings, reading}
use Rattle.mc_base.specs.Pieces.{parts_from}
use Rattle.board_model.specs.State.{Part}
use Rattle.board_model.specs.Parts.{same_carrier, goes_on, Coming, coming_so, begun, begins, with_piece, grown, alone, piece_coming, coming, readings, part_after}
use Rattle.std.proofs.lemmas.Bool.{cond_both, eq-eqb, eqb-true, ne_eqb}

-- ---- lists that are joined

pub after-append : (part : Option Part) (xs ys : List (List ℕ)) → part_after part (xs ++ ys) ≡ part_after (part_after part xs) ys
after-append part [] ys = refl
after-append part (x ∷ xs) ys = after-append (coming part (reading x)).part xs ys

pub readings-append : (part : Option Part) (xs ys : List (List ℕ)) → readings part (xs ++ ys) ≡ readings part xs ++ readings (part_after part xs) ys
readings-append part [] ys = refl
readings-append part (x ∷ xs) ys = ap (λ rs. (coming part (reading x)).reading ∷ rs) (readings-append (coming part (reading x)).part xs ys)

-- the piece that begins a part has the first bytes
pub begins-first : (q : Piece) → begins q ≡ true → q.offset ≡ 0
unfolding begins
begins-first q is = eqb-true q.offset 0 is

-- ---- what holds of all that a frame may say with a part

-- what holds of a frame's own reading, of each message and packet, and of each part, holds of what the frame says with the part before it
module _ (P : Reading → Type 0) (whole : (s d : ℕ) (k : Carrier) (bytes : List ℕ) → P (says s d (carried k bytes))) (part : (s d : ℕ) (q : Piece) → P (brings s d q)) where
  grown_holds : (joins : Bool) (p : Part) (q : Piece) → P (grown joins p q).reading
  grown_holds joins p q = cond_both (length (p.content ++ q.content) == p.total) (coming_so (says p.source p.destination (carried p.carrier (p.content ++ q.content))) None joins) (coming_so (brings p.source p.destination q) (Some (with_piece p q)) joins) (λ c. P c.reading) (λ e. whole p.source p.destination p.carrier (p.content ++ q.content)) (λ e. part p.source p.destination q)

  alone_holds : (s d : ℕ) (q : Piece) → P (alone s d q).reading
  alone_holds s d q = cond_both (begins q) (grown false (begun s d q) q) (coming_so (brings s d q) None false) (λ c. P c.reading) (λ e. grown_holds false (begun s d q) q) (λ e. part s d q)

  piece_holds : (o : Option Part) (s d : ℕ) (q : Piece) → P (piece_coming o s d q).reading
  piece_holds None s d q = alone_holds s d q
  piece_holds (Some p) s d q = cond_both (goes_on p s d q) (grown true p q) (alone s d q) (λ c. P c.reading) (λ e. grown_holds true p q) (λ e. alone_holds s d q)

  pub coming-holds : (o : Option Part) (r : Reading) → P r → P (coming o r).reading
  coming-holds o (brings s d q) holds = piece_holds o s d q
  coming-holds o (is_faulty f) holds = holds
  coming-holds o (announces text a there) holds = holds
  coming-holds o (says s d l) holds = holds

-- ---- frames that leave no part open and lose none

abbrev pub is_part : Reading → Bool
is_part (brings s d q) = true
is_part other = false

abbrev pub is_open : Option Part → Bool
is_open None = false
is_open (Some p) = true

-- the frame is not stray, and goes on with the part that is open
pub record Smooth (part : Option Part) (r : Reading) : Type 0 where
  pub here : is_part (coming part r).reading ≡ true → is_open (coming part r).part ≡ true
  pub joins : (part ≡ None) ⊎ ((coming part r).joins ≡ true)

abbrev pub AllSmooth : Option Part → List (List ℕ) → Type 0
AllSmooth part [] = Unit {0}
AllSmooth part (f ∷ fs) = Smooth part (reading f) × AllSmooth (coming part (reading f)).part fs

pub smooth-front : (part : Option Part) (xs ys : List (List ℕ)) → AllSmooth part (xs ++ ys) → AllSmooth part xs
smooth-front part [] ys all = tt
smooth-front part (x ∷ xs) ys all = (all.0, smooth-front (coming part (reading x)).part xs ys all.1)

pub smooth-join : (part : Option Part) (xs ys : List (List ℕ)) → AllSmooth part xs → AllSmooth (part_after part xs) ys → AllSmooth part (xs ++ ys)
smooth-join part [] ys front rest = rest
smooth-join part (x ∷ xs) ys front rest = (front.0, smooth-join (coming part (reading x)).part xs ys front.1 rest)

pub record Closed (fs : List (List ℕ)) : Type 0 where
  pub smooth : AllSmooth None fs
  pub ends : part_after None fs ≡ None

pub no-frames : Closed []
no-frames = record { smooth = tt; ends = refl }

pub closed-join : (xs ys : List (List ℕ)) → Closed xs → Closed ys → Closed (xs ++ ys)
closed-join xs ys front rest = record {
  smooth = smooth-join None xs ys front.smooth (subst (λ o. AllSmooth o ys) (sym front.ends) rest.smooth);
  ends = after-append None xs ys ∙ (ap (λ o. part_after o ys) front.ends ∙ rest.ends);
}

-- after such frames others say what they say alone
pub readings-join : (xs ys : List (List ℕ)) → Closed xs → readings None (xs ++ ys) ≡ readings None xs ++ readings None ys
readings-join xs ys front = readings-append None xs ys ∙ ap (λ o. readings None xs ++ readings o ys) front.ends

-- a frame that brings no part says what it says by itself, and ends the part that is open
pub coming-plain : (o : Option Part) (r : Reading) → is_part r ≡ false → coming o r ≡ coming_so r None false
coming-plain o (is_faulty w) is = refl
coming-plain o (announces text a there) is = refl
coming-plain o (says s d l) is = refl
coming-plain o (brings s d q) is = absurd cc

plain : (r : Reading) → is_part r ≡ false → Smooth None r × ((coming None r).part ≡ None)
plain (is_faulty f) is_no = (record { here = λ e. absurd cc; joins = inl refl }, refl)
plain (announces text a there) is_no = (record { here = λ e. absurd cc; joins = inl refl }, refl)
plain (says s d l) is_no = (record { here = λ e. absurd cc; joins = inl refl }, refl)
plain (brings s d q) is_no = absurd cc

pub plain-closed : (f : List ℕ) → is_part (reading f) ≡ false → Closed (f ∷ [])
plain-closed f is_no = let it = plain (reading f) is_no in record { smooth = (it.0, tt); ends = it.1 }

pub alone-same : (r : Reading) → is_part r ≡ false → (coming None r).reading ≡ r
alone-same r is = ap (λ c. c.reading) (coming-plain None r is)

pub plain-said : (f : List ℕ) → is_part (reading f) ≡ false → readings None (f ∷ []) ≡ reading f ∷ []
plain-said f is_no = ap (λ r. r ∷ []) (alone-same (reading f) is_no)

-- ---- the parts of one message or packet

same-carrier : (k : Carrier) → same_carrier k k ≡ true
same-carrier (of_message priority) = eq-eqb priority priority refl
same-carrier (of_packet channel) = eq-eqb channel channel refl

smooth_of : (o : Option Part) (r : Reading) (c : Coming) → coming o r ≡ c → (is_part c.reading ≡ true → is_open c.part ≡ true) → ((o ≡ None) ⊎ (c.joins ≡ true)) → Smooth o r
smooth_of o r c is open_so goes = record { here = subst (λ x. is_part x.reading ≡ true → is_open x.part ≡ true) (sym is) open_so; joins = subst (λ x. (o ≡ None) ⊎ (x.joins ≡ true)) (sym is) goes }

-- so many bytes are in one part and this many more, each but the last of as many bytes as the cut says
abbrev pub Fits : ℕ → ℕ → ℕ → Type 0
Fits cut zero n = (0 < n) × (n ≤ cut)
Fits cut (suc more) n = (cut < n) × Fits cut more (n - cut)

module _ (cut : ℕ) (cuts : 0 < cut) (a b : ℕ) (k : Carrier) (total : ℕ) (frame_of : Piece → List ℕ) (back : (o : ℕ) (bytes : List ℕ) → 0 < length bytes → length bytes ≤ cut → o + length bytes ≤ total → reading (frame_of (piece k total o bytes)) ≡ brings a b (piece k total o bytes)) where
  abbrev part_with : List ℕ → Part
  part_with done = record { source = a; destination = b; carrier = k; total = total; content = done }

  -- the part before: none at the first bytes, and then the part so far
  abbrev Begins : Option Part → List ℕ → Type 0
  Begins None done = done ≡ []
  Begins (Some p) done = p ≡ part_with done

  record Comes (o : Option Part) (done : List ℕ) (q : Piece) : Type 0 where
    joins : Bool
    is : coming o (brings a b q) ≡ grown joins (part_with done) q
    goes : (o ≡ None) ⊎ (joins ≡ true)

  on_so : (done bytes : List ℕ) → goes_on (part_with done) a b (piece k total (length done) bytes) ≡ true
  on_so done bytes = rw (eq-eqb a a refl, eq-eqb b b refl, same-carrier k, eq-eqb total total refl, eq-eqb (length done) (length done) refl) refl

  comes : (o : Option Part) (done bytes : List ℕ) → Begins o done → Comes o done (piece k total (length done) bytes)
  unfolding begins
  comes None done bytes is = subst (λ d. Comes None d (piece k total (length d) bytes)) (sym is) (record { joins = false; is = refl; goes = inl refl })
  comes (Some p) done bytes is = subst (λ x. Comes (Some x) done (piece k total (length done) bytes)) (sym is)
      (record { joins = true; is = ap (λ c. cond c (grown true (part_with done) (piece k total (length done) bytes)) (alone a b (piece k total (length done) bytes))) (on_so done bytes); goes = inr refl })

  pub record Said (o : Option Part) (fs : List (List ℕ)) (bytes : List ℕ) : Type 0 where
    pub smooth : AllSmooth o fs
    pub ends : part_after o fs ≡ None
    pub parts : List Piece
    pub are : readings o fs ≡ map (brings a b) parts ++ says a b (carried k bytes) ∷ []

  -- the last part
  last_part : (o : Option Part) (done rest : List ℕ) → Begins o done → length done + length rest ≡ total → 0 < length rest → length rest ≤ cut → Said o (frame_of (piece k total (length done) rest) ∷ []) (done ++ rest)
  last_part o done rest begins sum some short =
      let q = piece k total (length done) rest in
      let c = comes o done rest begins in
      let size : length (done ++ rest) ≡ total = omega (arith, length-append done rest) in
      let one : coming o (reading (frame_of q)) ≡ coming_so (says a b (carried k (done ++ rest))) None c.joins
      = ap (coming o) (back (length done) rest some short (omega arith)) ∙ (c.is ∙ ap (λ x. cond x (coming_so (says a b (carried k (done ++ rest))) None c.joins) (coming_so (brings a b q) (Some (part_with (done ++ rest))) c.joins)) (eq-eqb (length (done ++ rest)) total size)) in
      record {
        smooth = (smooth_of o (reading (frame_of q)) _ one (λ e. absurd cc) c.goes, tt);
        ends = ap (λ x. x.part) one;
        parts = [];
        are = ap (λ x. x.reading ∷ []) one;
      }

  pub parts_said : (more : ℕ) (o : Option Part) (done rest : List ℕ) → Begins o done → length done + length rest ≡ total → Fits cut more (length rest) → Said o (map frame_of (parts_from cut k total (suc more) (length done) rest)) (done ++ rest)
  parts_said zero o done rest begins sum fits = subst (λ bytes. Said o (frame_of (piece k total (length done) bytes) ∷ []) (done ++ rest)) (sym (take_all cut rest fits.1)) (last_part o done rest begins sum fits.0 fits.1)
  parts_said (suc m) o done rest begins sum fits =
      let bytes : List ℕ = take cut rest in
      let left : List ℕ = drop cut rest in
      let count : length bytes ≡ cut = omega (arith, length-take cut rest, fits.0) in
      let fewer : length left ≡ length rest - cut = length-drop cut rest in
      let q = piece k total (length done) bytes in
      let c = comes o done bytes begins in
      let size : length (done ++ bytes) ≡ length done + cut = omega (arith, length-append done bytes) in
      let not_whole : (length (done ++ bytes) == total) ≡ false = ne_eqb (length (done ++ bytes)) total (λ e. absurd (omega arith)) in
      let fs : List (List ℕ) = map frame_of (parts_from cut k total (suc m) (length done + cut) left) in
      let one : coming o (reading (frame_of q)) ≡ coming_so (brings a b q) (Some (part_with (done ++ bytes))) c.joins
      = ap (coming o) (back (length done) bytes (omega arith) (omega arith) (omega arith)) ∙ (c.is ∙ ap (λ x. cond x (coming_so (says a b (carried k (done ++ bytes))) None c.joins) (coming_so (brings a b q) (Some (part_with (done ++ bytes))) c.joins)) not_whole) in
      let later : Said (Some (part_with (done ++ bytes))) fs ((done ++ bytes) ++ left)
      = subst (λ n. Said (Some (part_with (done ++ bytes))) (map frame_of (parts_from cut k total (suc m) n left)) ((done ++ bytes) ++ left)) size (parts_said m (Some (part_with (done ++ bytes))) (done ++ bytes) left refl (omega arith) (subst (Fits cut m) (sym fewer) fits.1)) in
      let all : (done ++ bytes) ++ left ≡ done ++ rest = append_assoc done bytes left ∙ ap (λ xs. done ++ xs) (take-append-drop cut rest) in
      record {
        smooth = (smooth_of o (reading (frame_of q)) _ one (λ e. refl) c.goes, subst (λ x. AllSmooth x.part fs) (sym one) later.smooth);
        ends = ap (λ x. part_after x.part fs) one ∙ later.ends;
        parts = q ∷ later.parts;
        are = ap (λ x. x.reading ∷ readings x.part fs) one ∙ ap (λ rs. brings a b q ∷ rs) (later.are ∙ ap (λ xs. map (brings a b) later.parts ++ says a b (carried k xs) ∷ []) all);
      }

pub smooth-back : (part : Option Part) (xs ys : List (List ℕ)) → AllSmooth part (xs ++ ys) → AllSmooth (part_after part xs) ys
smooth-back part [] ys all = all
smooth-back part (x ∷ xs) ys all = smooth-back (coming part (reading x)).part xs ys all.1

pub readings-length : (part : Option Part) (fs : List (List ℕ)) → length (readings part fs) ≡ length fs
readings-length part [] = refl
readings-length part (f ∷ fs) = ap suc (readings-length (coming part (reading f)).part fs)
