-- Runs of any step over any list of events: what goes on holding, the last writer of any view, and two runs compared. A step leads from a
-- point to the next, and its note is what the log keeps of it. Assumes nothing.
use Rattle.std.specs.Prelude.{◌≡◌, Bool, true, false}
use Rattle.std.proofs.Math.Path.{refl, ap, ap₂}
use Rattle.std.proofs.Common.{sym, ◌∙◌}
use Rattle.std.proofs.Math.Bool.{cond}
use mathlib.Core.List.{List, [], ◌∷◌}
use Rattle.laws.specs.Cases.{All}
use Rattle.laws.specs.Choice.{by_bool}

-- what a list of notes makes of a value
unfoldable pub fold : {X A : Type 0} → (X → A → A) → A → List X → A
fold f v [] = v
fold f v (x ∷ xs) = fold f (f x v) xs

-- what each note shows
unfoldable pub shown_by : {X Y : Type 0} → (X → Y) → List X → List Y
shown_by f [] = []
shown_by f (x ∷ xs) = f x ∷ shown_by f xs

-- a fold over what each shows is one over the notes
pub fold_shown : {X Y A : Type 0} (f : Y → A → A) (g : X → Y) (v : A) (xs : List X) → fold f v (shown_by g xs) ≡ fold (λ x. f (g x)) v xs
unfolding fold shown_by
fold_shown f g v [] = refl
fold_shown f g v (x ∷ xs) = fold_shown f g (f (g x) v) xs

-- the notes that are not dropped
unfoldable pub undropped : {X : Type 0} → (X → Bool) → List X → List X
undropped dropped [] = []
undropped dropped (x ∷ xs) = cond (dropped x) (undropped dropped xs) (x ∷ undropped dropped xs)

module _ {P E X : Type 0} (step : P → E → P) (note : P → E → X) where
  -- where a run ends
  unfoldable pub ends : P → List E → P
  ends p [] = p
  ends p (e ∷ es) = ends (step p e) es

  -- its notes, in order
  unfoldable pub log : P → List E → List X
  log p [] = []
  log p (e ∷ es) = note p e ∷ log (step p e) es

  -- what every step notes, every note of a run says
  pub noted : (Q : X → Type 0) → ((p : P) (e : E) → Q (note p e)) → (p : P) (es : List E) → All Q (log p es)
  unfolding log
  noted Q q p [] = tt
  noted Q q p (e ∷ es) = (q p e, noted Q q (step p e) es)

  -- a log has every event, in order, where each note tells its event
  pub all_noted : (event : X → E) → ((p : P) (e : E) → event (note p e) ≡ e) → (p : P) (es : List E) → shown_by event (log p es) ≡ es
  unfolding log shown_by
  all_noted event back p [] = refl
  all_noted event back p (e ∷ es) = ap₂ (λ (x : E) (xs : List E). x ∷ xs) (back p e) (all_noted event back (step p e) es)

  module _ (I : P → Type 0) (keeps : (p : P) (e : E) → I p → I (step p e)) where
    -- what a step keeps, a run keeps
    pub kept : (p : P) (es : List E) → I p → I (ends p es)
    unfolding ends
    kept p [] i = i
    kept p (e ∷ es) i = kept (step p e) es (keeps p e i)

    -- a view that each step changes as its note says is, after a run, what the log says
    pub by_log : {A : Type 0} (view : P → A) (after : X → A → A) → ((p : P) (e : E) → I p → view (step p e) ≡ after (note p e) (view p))
        → (p : P) (es : List E) → I p → view (ends p es) ≡ fold after (view p) (log p es)
    unfolding ends log fold
    by_log view after s p [] i = refl
    by_log view after s p (e ∷ es) i =
        by_log view after s (step p e) es (keeps p e i) ∙ ap (λ v. fold after v (log (step p e) es)) (s p e i)

  -- events that leave every point of a run as it is can be left out of its list
  module _ (I : P → Type 0) (keeps : (p : P) (e : E) → I p → I (step p e)) (idle : E → Bool)
      (stays : (p : P) (e : E) → I p → idle e ≡ true → step p e ≡ p)
    where
      pub ends_without : (p : P) (es : List E) → I p → ends p (undropped idle es) ≡ ends p es
      unfolding ends undropped
      ends_without p [] i = refl
      ends_without p (e ∷ es) i =
          by_bool (λ (b : Bool). idle e ≡ b → ends p (cond b (undropped idle es) (e ∷ undropped idle es)) ≡ ends (step p e) es)
          (λ d. ends_without p es i ∙ ap (λ (q : P). ends q es) (sym (stays p e i d)))
          (λ _. ends_without (step p e) es (keeps p e i))
          (idle e) refl

      -- and its log is then without their notes
      pub log_without : (event : X → E) → ((p : P) (e : E) → event (note p e) ≡ e) → (p : P) (es : List E) → I p
          → log p (undropped idle es) ≡ undropped (λ (x : X). idle (event x)) (log p es)
      unfolding log undropped
      log_without event back p [] i = refl
      log_without event back p (e ∷ es) i =
          let left : (P → List X) = λ q. undropped (λ (x : X). idle (event x)) (log q es) in
          rw (back p e)
          (by_bool (λ (b : Bool). idle e ≡ b → log p (cond b (undropped idle es) (e ∷ undropped idle es)) ≡ cond b (left (step p e)) (note p e ∷ left (step p e)))
          (λ d. log_without event back p es i ∙ ap left (sym (stays p e i d)))
          (λ _. ap (λ (xs : List X). note p e ∷ xs) (log_without event back (step p e) es (keeps p e i)))
          (idle e) refl)

  -- two runs: the higher one is given what the lower one does not drop, in events of its own
  module _ (dropped : X → Bool) (Pair : P → P → E → E → Type 0) where
    pub data Matched : P → P → List E → List E → Type 0 where
      none : {p q : P} → Matched p q [] []
      lower : {p q : P} {e : E} {es fs : List E} → dropped (note p e) ≡ true → Matched (step p e) q es fs → Matched p q (e ∷ es) fs
      both : {p q : P} {e f : E} {es fs : List E} → dropped (note p e) ≡ false → Pair p q e f → Matched (step p e) (step q f) es fs
          → Matched p q (e ∷ es) (f ∷ fs)

    -- the lower run's own events without those dropped are such a list, where an event pairs with itself
    pub matched_own : (event : X → E) → ((p : P) (e : E) → event (note p e) ≡ e) → ((p q : P) (e : E) → Pair p q e e)
        → (p q : P) (es : List E) → Matched p q es (shown_by event (undropped dropped (log p es)))
    unfolding log shown_by undropped
    matched_own event back own p q [] = none
    matched_own event back own p q (e ∷ es) =
        by_bool (λ (b : Bool). dropped (note p e) ≡ b
        → Matched p q (e ∷ es) (shown_by event (cond b (undropped dropped (log (step p e) es)) (note p e ∷ undropped dropped (log (step p e) es)))))
        (λ d. lower d (matched_own event back own (step p e) q es))
        (λ d. rw (back p e) (both d (own p q e) (matched_own event back own (step p e) (step q e) es)))
        (dropped (note p e)) refl

    module _ {Y : Type 0} (shown : X → Y) (R : P → P → Type 0) where
      pub record Compared (p q : P) (es fs : List E) : Type 0 where
        pub related : R (ends p es) (ends q fs)
        pub same : shown_by shown (undropped dropped (log p es)) ≡ shown_by shown (log q fs)

      module _ (after_lower : (p q : P) (e : E) → dropped (note p e) ≡ true → R p q → R (step p e) q)
          (after_both : (p q : P) (e f : E) → dropped (note p e) ≡ false → Pair p q e f → R p q
          → R (step p e) (step q f) × (shown (note p e) ≡ shown (note q f)))
        where
          pub compare : (p q : P) (es fs : List E) → R p q → Matched p q es fs → Compared p q es fs
          unfolding ends log shown_by undropped
          compare p q [] [] r none = record { related = r; same = refl }
          compare p q [] (f ∷ fs) r x4 = elim x4 [ ]
          compare p q (e ∷ es) fs r (lower d m) =
              let c = compare (step p e) q es fs (after_lower p q e d r) m in
              record { related = c.related; same = rw d c.same }
          compare p q (e ∷ es) (f ∷ fs) r (both d h m) =
              let b = after_both p q e f d h r in
              let c = compare (step p e) (step q f) es fs b.0 m in
              record { related = c.related; same = rw d (ap₂ (λ (x : Y) (xs : List Y). x ∷ xs) b.1 c.same) }
