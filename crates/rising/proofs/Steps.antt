-- The walk marks exactly what is reached: its laws, a step at a time. Assumes nothing.
use Prim.Native.Nat.{ℕ, ◌+◌, ◌<◌, ◌≤◌}
use mathlib.Core.Bool.{not}
use mathlib.Core.Logic.{◌↔◌, inl, inr, ⊎_elim}
use mathlib.Core.List.{List}
use mathlib.Core.Path.{◌≡◌, refl, sym, ap, subst, ◌∙◌}
use native.Mathlib.Omega.{arith}
use lib.Dec.{eqb}
use lib.ListN.{length}
use Rattle.schema.specs.declared.entries.LevelReactionImage.{LevelReactionImage}
use Rattle.schema.specs.declared.rows.PortImage.{PortImage}
use Rattle.schema.specs.declared.rows.ReactionImage.{ReactionImage}
use Rattle.checks.specs.Image.{Image, ReactionPart, reaction_part}
use Rattle.rising.specs.declared.marks.Marks.{Marks}
use Rattle.rising.specs.declared.marks.Marks.TheVariants.{Bits}
use Rattle.rising.specs.Rising.{effects_of, port_of, triggers_of, target_of, LevelsRise}
use Rattle.rising.specs.Reach.{Triggers, Reaches, at_once, by_way}
use Rattle.rising.specs.Marks.{room, mark_of}
use Rattle.rising.specs.Walk.{Has, Via, Ready, Grown, FromReaction, FromPort, Entered}
use Rattle.rising.proofs.Settled.{settled}
use Rattle.rising.proofs.Ways.{trigger_rises}
use Rattle.rising.proofs.Climb.{climb, port_climb, port_falls, reaction_falls}
use Rattle.rising.proofs.MarkLaws.{same_or_not, room_for, Sets, set_has, set_other, set_keeps}

-- what is reached through the port at place n of reaction r is reached from r
via_reached : (m : Image) (r n u : ℕ) → n < effects_of m r → Via m (port_of m r n) u → Reaches m r u
via_reached m r n u l v =
    let t : Triggers m r (target_of m (port_of m r n) v.trigger) = record { effect = n; trigger = v.trigger; effect_there = l; trigger_there = v.there; target = refl } in
    ⊎_elim (λ e. at_once (subst (λ (x : ℕ). Triggers m r x) e t)) (λ w. by_way t w) v.on

module _ {m : Image} {k : Marks} where
  pub mark_kept : {a b c d : List ℕ} → Grown m k a b c d → (u : ℕ) → Has k a u → Has k b u
  mark_kept g u h = ⊎_elim (λ e. ap (λ (x : ℕ). not (eqb x 0)) e ∙ h) (λ e. ap (λ (x : ℕ). not (eqb x 0)) e.0) (g.mark u)

  pub grown_then : {a b e c d f : List ℕ} → Grown m k a b c d → Grown m k b e d f → Grown m k a e c f
  grown_then g h =
      record {
        long = h.long ∙ g.long;
        ports_long = h.ports_long ∙ g.ports_long;
        beyond = λ i l. h.beyond i l ∙ g.beyond i l;
        fits = λ i l. h.fits i (g.fits i l);
        mark = λ i. ⊎_elim (λ x. ⊎_elim (λ y. inl (x ∙ y)) (λ y. inr (x ∙ y.0, y.1)) (g.mark i)) (λ x. inr x) (h.mark i);
        port_kept = λ q x. h.port_kept q (g.port_kept q x);
        reaction_closed = λ u x. ⊎_elim (λ y. ⊎_elim (λ z. inl z) (λ z. inr (λ j l. h.port_kept (port_of m u j) (z j l))) (g.reaction_closed u y)) (λ y. inr y) (h.reaction_closed u x);
        port_closed = λ q x. ⊎_elim (λ y. ⊎_elim (λ z. inl z) (λ z. inr (λ j l. mark_kept h (target_of m q j) (z j l))) (g.port_closed q y)) (λ y. inr y) (h.port_closed q x);
      }

  -- ---- the ports of a reaction
  ports_step : (r n : ℕ) {a b e c d f : List ℕ} → n < effects_of m r → FromReaction m k r n a b c d → Entered m k (port_of m r n) b e d f → FromReaction m k r (n + 1) a e c f
  ports_step r n {f = f} l g h =
      record {
        grown = grown_then g.grown h.grown;
        entered = λ i u.
            ⊎_elim
            (λ x. subst (λ (y : ℕ). Has Bits f (port_of m r y)) (sym x) h.entered)
            (λ x. h.grown.port_kept (port_of m r i) (g.entered i (omega arith)))
            (same_or_not i n);
        sound = λ u x. ⊎_elim (λ y. g.sound u y) (λ v. inr (via_reached m r n u l v)) (h.sound u x);
      }

  pub ports_turn : {r n q : ℕ} {a b e c d f : List ℕ} → q ≡ port_of m r n → n < effects_of m r → FromReaction m k r n a b c d → Entered m k q b e d f → FromReaction m k r (n + 1) a e c f
  ports_turn {r} {n} {b = b} {e} {d = d} {f} p l g h = ports_step r n l g (subst (λ (x : ℕ). Entered m k x b e d f) p h)

  -- ---- the reactions of a port
  -- one that is marked now, and walked from
  marked_now : (u : ℕ) {b n e d f : List ℕ} → u < m.rows 5 → Sets k u b n → FromReaction m k u (effects_of m u) n e d f → Grown m k b e d f
  marked_now u {b} {n} {e} {d} {f} l s h =
      record {
        long = h.grown.long ∙ s.long;
        ports_long = h.grown.ports_long;
        beyond = λ i o. h.grown.beyond i o ∙ s.beyond (m.rows 5) i l o;
        fits = λ i o. h.grown.fits i (s.fits i o);
        mark = λ i.
            ⊎_elim
            (λ x.
            ⊎_elim
            (λ y. inr (x ∙ ap (mark_of k n) y ∙ s.here, subst (λ (v : ℕ). v < m.rows 5) (sym y) l))
            (λ y. inl (x ∙ s.others i y))
            (same_or_not i u))
            (λ x. inr x)
            (h.grown.mark i);
        port_kept = h.grown.port_kept;
        reaction_closed = λ v x.
            ⊎_elim
            (λ y. ⊎_elim (λ z. inr (subst (λ (w : ℕ). (i : ℕ) → i < effects_of m w → Has Bits f (port_of m w i)) (sym z) h.entered)) (λ z. inl z) (set_other s v y))
            (λ y. inr y)
            (h.grown.reaction_closed v x);
        port_closed = h.grown.port_closed;
      }

  port_step : (q j : ℕ) {a b n e c d f : List ℕ} → j < triggers_of m q → target_of m q j < m.rows 5 → Sets k (target_of m q j) b n → FromPort m k q j a b c d → FromReaction m k (target_of m q j) (effects_of m (target_of m q j)) n e d f → FromPort m k q (j + 1) a e c f
  port_step q j {b = b} {e = e} l t s g h =
      let new = marked_now (target_of m q j) t s h in
      record {
        grown = grown_then g.grown new;
        marked = λ i u.
            ⊎_elim
            (λ x. subst (λ (y : ℕ). Has k e (target_of m q y)) (sym x) (mark_kept h.grown (target_of m q j) (set_has s)))
            (λ x. mark_kept new (target_of m q i) (g.marked i (omega arith)))
            (same_or_not i j);
        sound = λ v x.
            ⊎_elim
            (λ y. ⊎_elim (λ z. inr (record { trigger = j; there = l; on = inl (sym z) })) (λ z. g.sound v z) (set_other s v y))
            (λ w. inr (record { trigger = j; there = l; on = inr w }))
            (h.sound v x);
      }

  pub port_turn : {q j u : ℕ} {a b n e c d f : List ℕ} → u ≡ target_of m q j → j < triggers_of m q → u < m.rows 5 → Sets k u b n → FromPort m k q j a b c d → FromReaction m k u (effects_of m u) n e d f → FromPort m k q (j + 1) a e c f
  port_turn {q} {j} {b = b} {n} {e = e} {d = d} {f} t l there s g h =
      port_step q j l (subst (λ (x : ℕ). x < m.rows 5) t there) (subst (λ (x : ℕ). Sets k x b n) t s) g
      (subst (λ (x : ℕ). FromReaction m k x (effects_of m x) n e d f) t h)

  -- a port that is entered now
  pub port_done : (q : ℕ) {a b c n d : List ℕ} → Sets Bits q c n → FromPort m k q (triggers_of m q) a b n d → Entered m k q a b c d
  port_done q {a} {b} {c} {n} {d} s h =
      record {
        grown = record {
          long = h.grown.long;
          ports_long = h.grown.ports_long ∙ s.long;
          beyond = h.grown.beyond;
          fits = h.grown.fits;
          mark = h.grown.mark;
          port_kept = λ x y. h.grown.port_kept x (set_keeps s x y);
          reaction_closed = h.grown.reaction_closed;
          port_closed = λ x y.
              ⊎_elim
              (λ z. ⊎_elim (λ w. inr (subst (λ (v : ℕ). (j : ℕ) → j < triggers_of m v → Has k b (target_of m v j)) (sym w) h.marked)) (λ w. inl w) (set_other s x z))
              (λ z. inr z)
              (h.grown.port_closed x y);
        };
        entered = h.grown.port_kept q (set_has s);
        sound = h.sound;
      }

  -- ---- after the walk from r, over marks that were clear: exactly what is reached
  module _ {r : ℕ} {a b c d : List ℕ} (h : FromReaction m k r (effects_of m r) a b c d) (clear : (u : ℕ) → u < m.rows 5 → Has k a u → ⊥) (shut : (q : ℕ) → Has Bits c q → ⊥) (w : LevelsRise m) where
    leads : (t u : ℕ) → ((i : ℕ) → i < effects_of m t → Has Bits d (port_of m t i)) → Triggers m t u → Has k b u
    leads t u all e =
        ⊎_elim
        (λ x. absurd (shut (port_of m t e.effect) x))
        (λ x. subst (λ (y : ℕ). Has k b y) e.target (x e.trigger e.trigger_there))
        (h.grown.port_closed (port_of m t e.effect) (all e.effect e.effect_there))

    complete : (t u : ℕ) → t < m.rows 5 → ((i : ℕ) → i < effects_of m t → Has Bits d (port_of m t i)) → Reaches m t u → Has k b u
    complete t u l all (at_once e) = leads t u all e
    complete t u l all (by_way {t = v} e g) =
        let n = (trigger_rises m w t v l e).0 in
        complete v u n (⊎_elim (λ x. absurd (clear v n x)) (λ x. x) (h.grown.reaction_closed v (leads t v all e))) g

    pub exact : r < m.rows 5 → (u : ℕ) → u < m.rows 5 → Has k b u ↔ Reaches m r u
    exact l u n = ((λ x. ⊎_elim (λ y. absurd (clear u n y)) (λ y. y) (h.sound u x)), complete r u l h.entered)

-- ---- what a call within the walk asks: marks and ports are as long as before
pub ready_on : {m : Image} {k : Marks} {a b c d : List ℕ} → Ready m k a c → length b ≡ length a → length d ≡ length c → Ready m k b d
ready_on h e f = let x = h.marks_long in let y = h.ports_long in record { rises = h.rises; marks_long = omega arith; ports_long = omega arith }

-- the loops' ends: at the least so far
pub port_fewer : {m : Image} {k : Marks} {q j n : ℕ} {a b c d : List ℕ} → n ≤ j → FromPort m k q j a b c d → FromPort m k q n a b c d
port_fewer l h = record { grown = h.grown; marked = λ i u. h.marked i (omega arith); sound = h.sound }

-- room for the mark of a reaction, and for that of a port
pub mark_room : {m : Image} {k : Marks} {a c : List ℕ} {u : ℕ} (b : List ℕ) → Ready m k a c → length b ≡ length a → u < m.rows 5 → room k (u + 1) ≤ length b
mark_room {m} {k} {u = u} b h e l = let x = h.marks_long in let y = room_for k u (m.rows 5) l in omega arith

pub port_room : {m : Image} {k : Marks} {a c : List ℕ} {q : ℕ} → Ready m k a c → q < m.rows 4 → room Bits (q + 1) ≤ length c
port_room {m} {q = q} h l = let x = h.ports_long in let y = room_for Bits q (m.rows 4) l in omega arith

-- ---- what the walk reads: the port at place n of reaction r, and the reaction at place j of port q
pub record PortRead (m : Image) (r n q : ℕ) : Type 0 where
  pub is : q ≡ port_of m r n
  pub inside : n < effects_of m r
  pub there : q < m.rows 4
  pub falls : port_climb m q < climb m r

pub port_read :
    (m : Image) (r n : ℕ) (row : ReactionImage) {q : ℕ} → reaction_part row ≡ m.reactions r → q ≡ m.indexes 10 (row.effect_ports.start + n)
    → LevelsRise m → r < m.rows 5 → n < row.effect_ports.len → PortRead m r n q
port_read m r n row e at w l u =
    let p = at ∙ ap (λ (x : ReactionPart). m.indexes 10 (x.effects.start + n)) e in
    let v = subst (λ (x : ReactionPart). n < x.effects.len) e u in
    record {
      is = p;
      inside = v;
      there = subst (λ (x : ℕ). x < m.rows 4) (sym p) ((settled m w.accepted).port_there r n l v);
      falls = subst (λ (x : ℕ). port_climb m x < climb m r) (sym p) (port_falls m w r n l v);
    }

pub record TargetRead (m : Image) (q j u : ℕ) : Type 0 where
  pub is : u ≡ target_of m q j
  pub inside : j < triggers_of m q
  pub there : u < m.rows 5
  pub falls : climb m u < port_climb m q

pub target_read :
    (m : Image) (q j : ℕ) {row : PortImage} {t : LevelReactionImage} → row ≡ m.ports q → t ≡ m.levels 8 (row.triggers.start + j)
    → LevelsRise m → q < m.rows 4 → j < row.triggers.len → TargetRead m q j t.reaction.0
target_read m q j e at w l u =
    let p = ap (λ (x : LevelReactionImage). x.reaction.0) (at ∙ ap (λ (x : PortImage). m.levels 8 (x.triggers.start + j)) e) in
    let v = subst (λ (x : PortImage). j < x.triggers.len) e u in
    record {
      is = p;
      inside = v;
      there = subst (λ (x : ℕ). x < m.rows 5) (sym p) ((settled m w.accepted).target_there q j l v);
      falls = subst (λ (x : ℕ). climb m x < port_climb m q) (sym p) (reaction_falls m w q j l v);
    }
