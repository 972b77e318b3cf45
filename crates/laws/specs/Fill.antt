-- A loop that fills the front of an array of N, whose other elements stay z:
--
--     let mut l = [z; 32];
--     let mut i = 0;
--     while i < n {
--         l[i] = at(i);
--         i += 1;
--     }
--     l
--
-- Its result is `padded f n N z`, its invariant `(i ≤ n) × (l ≡ padded f i N z)`. Assumes nothing.
use Rattle.std.specs.Prelude.{◌≡◌, ◌≢◌, Bool, ltb, set}
use Rattle.std.proofs.Math.Path.{refl, sym, ap}
use Rattle.std.proofs.Common.{◌∙◌, le_antisymm, not-suc-le-zero, arith, length-set, ext_get_or, get_or-set_same, get_or-set_other, rules, ltb-true, ltb-false}
use mathlib.Core.List.{List, [], ◌∷◌, ◌++◌, append_assoc}
use Prim.Native.Nat.{ℕ, zero, suc, ◌+◌, ◌-◌, ◌<◌, ◌≤◌}
use Rattle.std.proofs.Math.Numerals.{add-one}
use Rattle.std.proofs.Math.Nat.{sub-zero}
use Rattle.std.proofs.Math.Decide.{ℕ_discrete}
use Rattle.std.proofs.Math.ListN.{length, get_or, replicate, length-append, get_or-replicate, get_or-append}
use Rattle.std.proofs.lemmas.List.{length-replicate, set_at, get_or_at}
use Rattle.std.proofs.Math.Seq.{get_or-append-add}
use borrow.Author.Count.{below_more}
use Rattle.laws.specs.Choice.{by_bool}

-- while n is below N, one element more stands behind the first n
pad_more : (N n : ℕ) → n < N → N - n ≡ suc (N - suc n)
pad_more N n h = omega arith

module _ {A : Type 0} where
  -- f 0, f 1, .. , n of them
  unfoldable pub list_to : (ℕ → A) → ℕ → List A
  list_to f zero = []
  list_to f (suc n) = list_to f n ++ (f n ∷ [])

  -- the same, and z behind them up to N
  unfoldable pub padded : (ℕ → A) → ℕ → ℕ → A → List A
  padded f n N z = list_to f n ++ replicate (N - n) z

  pub length_list_to : (f : ℕ → A) (n : ℕ) → length (list_to f n) ≡ n
  unfolding list_to
  length_list_to f zero = refl
  length_list_to f (suc n) = length-append (list_to f n) (f n ∷ []) ∙ rw (length_list_to f n) (add-one n)

  pub padded_none : (f : ℕ → A) (N : ℕ) (z : A) → replicate N z ≡ padded f 0 N z
  unfolding padded list_to
  padded_none f N z = rw sub-zero

  pub padded_more : (f : ℕ → A) (n N : ℕ) (z v : A) → n < N → v ≡ f n → set (padded f n N z) n v ≡ padded f (n + 1) N z
  unfolding padded list_to
  padded_more f n N z v h e =
      rw (pad_more N n h, add-one, e)
      (set_at (list_to f n) z (replicate (N - suc n) z) (f n) n (length_list_to f n)
      ∙ sym (append_assoc (list_to f n) (f n ∷ []) (replicate (N - suc n) z)))

  pub padded_done : (f : ℕ → A) (n i N : ℕ) (z : A) (l : List A) → i ≤ n → n ≤ i → l ≡ padded f i N z → l ≡ padded f n N z
  padded_done f n i N z l h k e = e ∙ ap (λ (j : ℕ). padded f j N z) (le_antisymm h k)

  pub length_padded : (f : ℕ → A) (n N : ℕ) (z : A) → n ≤ N → length (padded f n N z) ≡ N
  unfolding padded
  length_padded f n N z h =
      length-append (list_to f n) (replicate (N - n) z) ∙ rw (length_list_to f n, length-replicate) (omega arith)

  pub get_or_list_to : (f : ℕ → A) (n i : ℕ) (d : A) → i < n → get_or (list_to f n) i d ≡ f i
  unfolding list_to
  get_or_list_to f zero i d h = absurd (not-suc-le-zero h)
  get_or_list_to f (suc n) i d h =
      below_more (λ (j : ℕ). get_or (list_to f n ++ (f n ∷ [])) j d ≡ f j) n
      (λ j l. get_or-append (list_to f n) (f n ∷ []) d j (rw (length_list_to f n) l) ∙ get_or_list_to f n j d l)
      (get_or_at (list_to f n) (f n) [] d n (length_list_to f n)) i (rw add-one h)

  -- what stands at each place: f's value below n, and z from there on
  pub get_or_padded : (f : ℕ → A) (n N i : ℕ) (z d : A) → i < n → get_or (padded f n N z) i d ≡ f i
  unfolding padded
  get_or_padded f n N i z d h =
      get_or-append (list_to f n) (replicate (N - n) z) d i (rw (length_list_to f n) h) ∙ get_or_list_to f n i d h

  pub get_or_past : (f : ℕ → A) (n N i : ℕ) (z d : A) → n ≤ i → i < N → get_or (padded f n N z) i d ≡ z
  unfolding padded
  get_or_past f n N i z d h k =
      let e : length (list_to f n) + (i - n) ≡ i = rw (length_list_to f n) (omega arith) in
      ap (λ (j : ℕ). get_or (list_to f n ++ replicate (N - n) z) j d) (sym e)
      ∙ get_or-append-add (list_to f n) (replicate (N - n) z) (i - n) d
      ∙ get_or-replicate (N - n) (i - n) z d (omega arith)

  -- two fillings that agree below n
  pub list_to_same : (f g : ℕ → A) (n : ℕ) → ((i : ℕ) → i < n → f i ≡ g i) → list_to f n ≡ list_to g n
  unfolding list_to
  list_to_same f g zero h = refl
  list_to_same f g (suc n) h = rw (list_to_same f g n (λ i l. h i (search rules)), h n (search rules))

  -- a filling in which one element is another
  pub list_to_set : (f g : ℕ → A) (N n : ℕ) (v d : A) → n < N → g n ≡ v → ((i : ℕ) → i < N → i ≢ n → g i ≡ f i) → list_to g N ≡ set (list_to f N) n v
  list_to_set f g N n v d h e q =
      ext_get_or d (list_to g N) (set (list_to f N) n v) (length_list_to g N ∙ sym (length-set (list_to f N) n v ∙ length_list_to f N))
      (λ i l. at i (rw (length_list_to g N) at l) (ℕ_discrete i n))
    where
      at : (i : ℕ) → i < N → Dec (i ≡ n) → get_or (list_to g N) i d ≡ get_or (set (list_to f N) n v) i d
      at i l (yes p) = get_or_list_to g N i d l ∙ rw (p, get_or-set_same (list_to f N) n v d (rw (length_list_to f N) h)) e
      at i l (no p) = get_or_list_to g N i d l ∙ q i l p ∙ sym (get_or-set_other (list_to f N) n i v d p ∙ get_or_list_to f N i d l)

  -- n places filled by g and the others z, from what stands at each
  pub filled_as : (f g : ℕ → A) (n N : ℕ) (z d : A) → n ≤ N → ((i : ℕ) → i < n → f i ≡ g i) → ((i : ℕ) → n ≤ i → i < N → f i ≡ z)
      → list_to f N ≡ padded g n N z
  filled_as f g n N z d k below past =
      ext_get_or d (list_to f N) (padded g n N z) (length_list_to f N ∙ sym (length_padded g n N z k))
      (λ i j. let b : i < N = rw (length_list_to f N) at j in
      get_or_list_to f N i d b
      ∙ by_bool (λ (t : Bool). ltb i n ≡ t → f i ≡ get_or (padded g n N z) i d)
      (λ q. let h : i < n = ltb-true i n q in
      below i h ∙ sym (get_or_padded g n N i z d h))
      (λ q. let h : n ≤ i = ltb-false i n q in
      past i h b ∙ sym (get_or_past g n N i z d h b)) (ltb i n) refl)

  -- each place is z
  pub list_to_all : (f : ℕ → A) (N : ℕ) (z : A) → ((i : ℕ) → i < N → f i ≡ z) → list_to f N ≡ replicate N z
  list_to_all f N z h = filled_as f f 0 N z z (omega arith) (λ i l. refl) (λ i k l. h i l) ∙ sym (padded_none f N z)

pub ruleset fill_loop = (padded_none, padded_more, padded_done, rules)
