-- How the ends of each link moved since they were opened, on a board whose domains ran on their own.
use Rattle.std.proofs.Common.{◌≡◌, ℕ, ◌<◌, Bool, true, false, ◌&&◌, cond, List, [], ◌∷◌, ◌++◌, map, find, Option, Some, None, option_map, refl, sym, ap, ◌∙◌, subst, eq-eqb, eqb-true}
use Rattle.std.specs.Prelude.{◌==◌, nat_lt}
use Rattle.std.specs.List.{AllByRecursion}
use Rattle.std.proofs.lemmas.Bool.{cond_both}
use Rattle.lane_end.specs.AnySender.{AnySends}
use Rattle.lane_end.specs.AnyReceiver.{AnyReceives}
use Rattle.lane_end.specs.Loop.{Loop, new_loop}
use Rattle.board_model.specs.declared.scenario.DomainLine.{DomainLine}
use Rattle.board_model.specs.declared.scenario.Scenario.{Scenario}
use Rattle.board_model.specs.Scenario.{script, neighbours}
use Rattle.board_model.specs.Deeds.{Deed, along}
use Rattle.board_model.specs.Run.{start}
use Rattle.board_model.specs.SerialRun as run
use Rattle.board_model.specs.SerialRun.{opened_station, is_station}
use Rattle.domain_core.specs.Carrying.{AnyLink, link_to}
use Rattle.domain_core.specs.Ends.{EndsMoved}
use Rattle.domain_core.specs.AllMoved.{AllMoved}
use Rattle.domain_core.specs.LaneMoves.{LaneMove, receives}
use Rattle.domain_core.specs.LinkMoved.{LinkMoved}
use Rattle.domain_core.specs.LoopMoved.{LoopMoved}
use Rattle.domain_core.specs.Opening.{ends_opened, links_in}
use Rattle.domain_core.specs.declared.Ends.TheVariants.{Own, Linked}
use Rattle.lane_images.specs.DeedMoves.{deed_moves, unlooked, nameless_deed, IsNumbered}
use Rattle.board_runner.specs.declared.station.Station.{Station}
use Rattle.board_runner.specs.declared.wires.Wire.{Wire}
use Rattle.board_runner.specs.Ended.{wire_of, wires_in, wires_left}
use Rattle.board_runner.specs.Finishing.{BoardMoves}
use Rattle.board_runner.specs.Near.{RunEnds, peers_of, EndsMatch}
use Rattle.board_runner.specs.Opened.{AreOpened}
use Rattle.board_runner.specs.OwnBoard.{AllRanAs}
use Rattle.board_runner.specs.OwnRun.{unnumbered, moves_told, deeds_told}
use Rattle.board_runner.specs.Stations.{IsStation, AreStations}
use Rattle.board_runner.specs.Wired.{leads_from, wire_at, links_wired}
use Rattle.board_runner.proofs.OpeningLemmas.{opened-links}
use Rattle.board_runner.proofs.WiredLemmas.{find-wired}

abbrev Moved : RunEnds → List LaneMove → RunEnds → Type 0
Moved = EndsMoved AnySends AnyReceives

-- ---- the ends of one domain

-- the link to a peer after its moves
pub record LinkAfter (l : AnyLink) (ms : List LaneMove) (found : Option AnyLink) : Type 0 where
  pub link : AnyLink
  pub is : found ≡ Some link
  pub moved : LinkMoved AnySends AnyReceives l ms link

link-after : (n : ℕ) (moves : ℕ → List LaneMove) (ps : List ℕ) (olds news : List RunEnds) → EndsMatch n ps olds → AllMoved Moved olds (map moves ps) news → (b : ℕ) (l : AnyLink) → link_to b olds ≡ Some l → LinkAfter l (moves b) (link_to b news)
link-after n moves [] [] [] matched moved b l at = absurd cc
link-after n moves [] [] (x ∷ news) matched moved b l at = absurd moved
link-after n moves [] (Own o ∷ olds) news matched moved b l at = absurd matched
link-after n moves [] (Linked o ∷ olds) news matched moved b l at = absurd matched
link-after n moves (p ∷ ps) [] news matched moved b l at = absurd matched
link-after n moves (p ∷ ps) (Own o ∷ olds) [] matched moved b l at = absurd moved
link-after n moves (p ∷ ps) (Linked o ∷ olds) [] matched moved b l at = absurd moved
link-after n moves (p ∷ ps) (Own o ∷ olds) (Linked k ∷ news) matched moved b l at = absurd moved.0
link-after n moves (p ∷ ps) (Linked o ∷ olds) (Own k ∷ news) matched moved b l at = absurd moved.0
link-after n moves (p ∷ ps) (Own o ∷ olds) (Own k ∷ news) matched moved b l at = link-after n moves ps olds news matched.1 moved.1 b l at
link-after n moves (p ∷ ps) (Linked o ∷ olds) (Linked k ∷ news) matched moved b l at =
    subst (λ (c : Bool). LinkAfter l (moves b) (cond c (Some k) (link_to b news))) (ap (λ (q : ℕ). q == b) (sym moved.0.peer))
    (go (o.peer == b) refl at (link-after n moves ps olds news matched.2 moved.1 b l))
  where
    go : (c : Bool) → (o.peer == b) ≡ c → cond c (Some o) (link_to b olds) ≡ Some l → (link_to b olds ≡ Some l → LinkAfter l (moves b) (link_to b news)) → LinkAfter l (moves b) (cond c (Some k) (link_to b news))
    go true is here later =
        let same : o ≡ l = cc in
        let peer : p ≡ b = sym matched.1.peer ∙ eqb-true o.peer b is in
        record { link = k; is = refl; moved = subst (λ (x : AnyLink). LinkMoved AnySends AnyReceives x (moves b) k) same (subst (λ (q : ℕ). LinkMoved AnySends AnyReceives o (moves q) k) peer moved.0) }
    go false is here later = later here

-- the own lane
abbrev own_of : List RunEnds → Option Loop
own_of [] = None
own_of (Own l ∷ es) = Some l
own_of (Linked l ∷ es) = own_of es

own-opened : (n : ℕ) (own : Loop) (ls : List AnyLink) → own_of (ends_opened n own ls) ≡ Some own
own-opened n own [] = refl
own-opened n own (l ∷ ls) = cond_both (nat_lt n l.peer) (Own own ∷ map (λ m. Linked m) (l ∷ ls)) (Linked l ∷ ends_opened n own ls) (λ es. own_of es ≡ Some own) (λ before. refl) (λ behind. own-opened n own ls)

pub record OwnAfter (l : Loop) (ms : List LaneMove) : Type 0 where
  pub loop : Loop
  pub moved : LoopMoved l ms loop

own-after : (n : ℕ) (moves : ℕ → List LaneMove) (ps : List ℕ) (olds news : List RunEnds) → EndsMatch n ps olds → AllMoved Moved olds (map moves ps) news → (l : Loop) → own_of olds ≡ Some l → OwnAfter l (moves n)
own-after n moves [] [] news matched moved l at = absurd cc
own-after n moves [] (Own o ∷ olds) news matched moved l at = absurd matched
own-after n moves [] (Linked o ∷ olds) news matched moved l at = absurd matched
own-after n moves (p ∷ ps) [] news matched moved l at = absurd matched
own-after n moves (p ∷ ps) (Own o ∷ olds) [] matched moved l at = absurd moved
own-after n moves (p ∷ ps) (Linked o ∷ olds) [] matched moved l at = absurd moved
own-after n moves (p ∷ ps) (Own o ∷ olds) (Linked k ∷ news) matched moved l at = absurd moved.0
own-after n moves (p ∷ ps) (Linked o ∷ olds) (Own k ∷ news) matched moved l at = absurd moved.0
own-after n moves (p ∷ ps) (Own o ∷ olds) (Own k ∷ news) matched moved l at =
    let same : o ≡ l = cc in
    record { loop = k; moved = subst (λ (x : Loop). LoopMoved x (moves n) k) same (subst (λ (q : ℕ). LoopMoved o (moves q) k) matched.0 moved.0) }
own-after n moves (p ∷ ps) (Linked o ∷ olds) (Linked k ∷ news) matched moved l at = own-after n moves ps olds news matched.2 moved.1 l at

-- ---- all domains

module _ (s : Scenario) where
  -- what each domain did at its ends towards each peer
  abbrev pub moves_by : (ts : List run.Station) (olds news : List Station) → AllRanAs s ts olds news → BoardMoves
  moves_by [] [] [] all a b = []
  moves_by [] [] (n ∷ news) all a b = absurd all
  moves_by [] (o ∷ olds) news all a b = absurd all
  moves_by (t ∷ ts) [] news all a b = absurd all
  moves_by (t ∷ ts) (o ∷ olds) [] all a b = absurd all
  moves_by (t ∷ ts) (o ∷ olds) (n ∷ news) all a b = cond (t.line.domain == a) (all.0.moves.moves b) (moves_by ts olds news all.1 a b)

  -- its journal tells it
  abbrev pub ToldAt : (ℕ → List LaneMove) → run.Station → Type 0
  ToldAt moves t = (p : ℕ) → map unnumbered (moves p) ≡ moves_told (script s t.line.domain) (start s t.line) p t.entries

  pub told-at : (ts : List run.Station) (olds news : List Station) (all : AllRanAs s ts olds news) (a : ℕ) (t : run.Station) → find (is_station a) ts ≡ Some t → ToldAt (moves_by ts olds news all a) t
  told-at [] olds news all a t at = absurd cc
  told-at (u ∷ ts) [] news all a t at = absurd all
  told-at (u ∷ ts) (o ∷ olds) [] all a t at = absurd all
  told-at (u ∷ ts) (o ∷ olds) (n ∷ news) all a t at = go (u.line.domain == a) at (told-at ts olds news all.1 a t)
    where
      go : (c : Bool) → cond c (Some u) (find (is_station a) ts) ≡ Some t → (find (is_station a) ts ≡ Some t → ToldAt (moves_by ts olds news all.1 a) t) → ToldAt (λ b. cond c (all.0.moves.moves b) (moves_by ts olds news all.1 a b)) t
      go true here later = let same : u ≡ t = cc in subst (ToldAt all.0.moves.moves) same all.0.moves.told
      go false here later = later here

  -- what it did, each frame named by its buffer's number, is what the journal tells, and what the moves do
  pub record DoneAt (moves : ℕ → List LaneMove) (t : run.Station) : Type 0 where
    pub deeds : List Deed
    pub numbered : AllByRecursion IsNumbered deeds
    pub noted : map nameless_deed deeds ≡ deeds_told (script s t.line.domain) (start s t.line) t.entries
    pub dealt : (p : ℕ) → unlooked (receives (moves p)) ≡ along (deed_moves p) (start s t.line).state deeds

  pub done-at : (ts : List run.Station) (olds news : List Station) (all : AllRanAs s ts olds news) (a : ℕ) (t : run.Station) → find (is_station a) ts ≡ Some t → DoneAt (moves_by ts olds news all a) t
  done-at [] olds news all a t at = absurd cc
  done-at (u ∷ ts) [] news all a t at = absurd all
  done-at (u ∷ ts) (o ∷ olds) [] all a t at = absurd all
  done-at (u ∷ ts) (o ∷ olds) (n ∷ news) all a t at = go (u.line.domain == a) at (done-at ts olds news all.1 a t)
    where
      go : (c : Bool) → cond c (Some u) (find (is_station a) ts) ≡ Some t → (find (is_station a) ts ≡ Some t → DoneAt (moves_by ts olds news all.1 a) t) → DoneAt (λ b. cond c (all.0.moves.moves b) (moves_by ts olds news all.1 a b)) t
      go true here later = let same : u ≡ t = cc in subst (DoneAt all.0.moves.moves) same (record { deeds = all.0.moves.deeds; numbered = all.0.moves.numbered; noted = all.0.moves.noted; dealt = all.0.moves.dealt })
      go false here later = later here

module _ (s : Scenario) (ws : List Wire) where
  -- the links of a domain among all that are left
  left-first : (owner a b : ℕ) (ls : List AnyLink) (rest : List Wire) (l : AnyLink) → owner ≡ a → find (λ (k : AnyLink). k.peer == b) ls ≡ Some l → wire_at (map (wire_of owner) ls ++ rest) a b ≡ Some l
  left-first owner a b [] rest l own at = absurd cc
  left-first owner a b (k ∷ ls) rest l own at =
      ap (λ (c : Bool). option_map (λ (w : Wire). w.link) (cond (c && (k.peer == b)) (Some (wire_of owner k)) (find (leads_from a b) (map (wire_of owner) ls ++ rest)))) (eq-eqb owner a own)
      ∙ go (k.peer == b) at (left-first owner a b ls rest l own)
    where
      go : (c : Bool) → cond c (Some k) (find (λ (x : AnyLink). x.peer == b) ls) ≡ Some l → (find (λ (x : AnyLink). x.peer == b) ls ≡ Some l → wire_at (map (wire_of owner) ls ++ rest) a b ≡ Some l)
          → option_map (λ (w : Wire). w.link) (cond c (Some (wire_of owner k)) (find (leads_from a b) (map (wire_of owner) ls ++ rest))) ≡ Some l
      go true here later = here
      go false here later = later here

  left-other : (owner a b : ℕ) (ls : List AnyLink) (rest : List Wire) → (owner == a) ≡ false → wire_at (map (wire_of owner) ls ++ rest) a b ≡ wire_at rest a b
  left-other owner a b [] rest other = refl
  left-other owner a b (k ∷ ls) rest other =
      ap (λ (c : Bool). option_map (λ (w : Wire). w.link) (cond (c && (k.peer == b)) (Some (wire_of owner k)) (find (leads_from a b) (map (wire_of owner) ls ++ rest)))) other ∙ left-other owner a b ls rest other

  -- the peers that a domain was opened with are those that it has at the end
  same-match : (d : DomainLine) (t : run.Station) (o n : Station) → d ≡ t.line → IsStation s (opened_station s d) o → IsStation s t n → EndsMatch t.line.domain (peers_of n.domain) o.domain.ends
  same-match d t o n line old new =
      subst (λ (k : ℕ). EndsMatch k (peers_of n.domain) o.domain.ends) (ap (λ (x : DomainLine). x.domain) line)
      (subst (λ (ps : List ℕ). EndsMatch d.domain ps o.domain.ends) (old.peers ∙ ap (λ (x : DomainLine). map (λ m. m.number) (neighbours s x)) line ∙ sym new.peers) old.matched)

  -- a link of the board, and what its owner did there
  pub links-after : (ds : List DomainLine) (ts : List run.Station) (olds news : List Station) → map (λ t. t.line) ts ≡ ds → AreOpened s ws ds olds → AreStations s (map (opened_station s) ds) olds → (all : AllRanAs s ts olds news)
      → (a b : ℕ) (d : DomainLine) → find (λ e. e.domain == a) ds ≡ Some d → b < 8 → (l : AnyLink) → wire_at ws a b ≡ Some l → LinkAfter l (moves_by s ts olds news all a b) (wire_at (wires_left news) a b)
  links-after [] ts olds news lines opens stand all a b d found few l at = absurd cc
  links-after (e ∷ ds) [] olds news lines opens stand all a b d found few l at = absurd cc
  links-after (e ∷ ds) (t ∷ ts) [] news lines opens stand all a b d found few l at = absurd all
  links-after (e ∷ ds) (t ∷ ts) (o ∷ olds) [] lines opens stand all a b d found few l at = absurd all
  links-after (e ∷ ds) (t ∷ ts) (o ∷ olds) (n ∷ news) lines opens stand all a b d found few l at =
      go (t.line.domain == a) refl (ap (λ (x : DomainLine). cond (x.domain == a) (Some e) (find (λ y. y.domain == a) ds)) line_is ∙ found)
      (λ later. links-after ds ts olds news (let rest : map (λ (x : run.Station). x.line) ts ≡ ds = cc in rest) opens.1 stand.1 all.1 a b d later few l at)
    where
      line_is : t.line ≡ e
      line_is = cc

      go : (c : Bool) → (t.line.domain == a) ≡ c → cond c (Some e) (find (λ y. y.domain == a) ds) ≡ Some d → (find (λ y. y.domain == a) ds ≡ Some d → LinkAfter l (moves_by s ts olds news all.1 a b) (wire_at (wires_left news) a b))
          → LinkAfter l (cond c (all.0.moves.moves b) (moves_by s ts olds news all.1 a b)) (wire_at (wires_in n ++ wires_left news) a b)
      go true is here later =
          let is_a : t.line.domain ≡ a = eqb-true t.line.domain a is in
          let e_is : e.domain ≡ a = sym (ap (λ (x : DomainLine). x.domain) line_is) ∙ is_a in
          let there : link_to b o.domain.ends ≡ Some l =
          ap (link_to b) opens.0.ends ∙ ap (find (λ (k : AnyLink). k.peer == b)) (opened-links e.domain (new_loop e.pool) (links_wired ws e.domain 8)) ∙ ap (λ (m : ℕ). find (λ (k : AnyLink). k.peer == b) (links_wired ws m 8)) e_is ∙ find-wired ws a b 8 few l at in
          let after = link-after t.line.domain all.0.moves.moves (peers_of n.domain) o.domain.ends n.domain.ends (same-match e t o n (sym line_is) stand.0 all.0.stands) all.0.moves.moved b l there in
          record { link = after.link; is = left-first n.domain_number a b (links_in n.domain.ends) (wires_left news) after.link (all.0.stands.domain_number ∙ is_a) after.is; moved = after.moved }
      go false is here later =
          let h = later here in
          record { link = h.link; is = left-other n.domain_number a b (links_in n.domain.ends) (wires_left news) (ap (λ (k : ℕ). k == a) all.0.stands.domain_number ∙ is) ∙ h.is; moved = h.moved }

  -- and its own lane
  pub owns-after : (ds : List DomainLine) (ts : List run.Station) (olds news : List Station) → map (λ t. t.line) ts ≡ ds → AreOpened s ws ds olds → AreStations s (map (opened_station s) ds) olds → (all : AllRanAs s ts olds news)
      → (a : ℕ) (t : run.Station) → find (is_station a) ts ≡ Some t → OwnAfter (new_loop t.line.pool) (moves_by s ts olds news all a a)
  owns-after ds [] olds news lines opens stand all a t found = absurd cc
  owns-after [] (u ∷ ts) olds news lines opens stand all a t found = absurd cc
  owns-after (e ∷ ds) (u ∷ ts) [] news lines opens stand all a t found = absurd all
  owns-after (e ∷ ds) (u ∷ ts) (o ∷ olds) [] lines opens stand all a t found = absurd all
  owns-after (e ∷ ds) (u ∷ ts) (o ∷ olds) (n ∷ news) lines opens stand all a t found =
      go (u.line.domain == a) refl found (λ later. owns-after ds ts olds news (let rest : map (λ (x : run.Station). x.line) ts ≡ ds = cc in rest) opens.1 stand.1 all.1 a t later)
    where
      line_is : u.line ≡ e
      line_is = cc

      go : (c : Bool) → (u.line.domain == a) ≡ c → cond c (Some u) (find (is_station a) ts) ≡ Some t → (find (is_station a) ts ≡ Some t → OwnAfter (new_loop t.line.pool) (moves_by s ts olds news all.1 a a)) → OwnAfter (new_loop t.line.pool) (cond c (all.0.moves.moves a) (moves_by s ts olds news all.1 a a))
      go true is here later =
          let same : u ≡ t = cc in
          let is_a : u.line.domain ≡ a = eqb-true u.line.domain a is in
          let pool : e.pool ≡ t.line.pool = sym (ap (λ (x : DomainLine). x.pool) line_is) ∙ ap (λ (x : run.Station). x.line.pool) same in
          let there : own_of o.domain.ends ≡ Some (new_loop t.line.pool) = ap own_of opens.0.ends ∙ own-opened e.domain (new_loop e.pool) (links_wired ws e.domain 8) ∙ ap (λ (k : ℕ). Some (new_loop k)) pool in
          let after = own-after u.line.domain all.0.moves.moves (peers_of n.domain) o.domain.ends n.domain.ends (same-match e u o n (sym line_is) stand.0 all.0.stands) all.0.moves.moved (new_loop t.line.pool) there in
          subst (λ (k : ℕ). OwnAfter (new_loop t.line.pool) (all.0.moves.moves k)) is_a after
      go false is here later = later here
