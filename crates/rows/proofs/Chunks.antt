-- A list cut into parts of one length, as `as_chunks::<N>()` gives them. Assumes nothing.
use Rattle.std.specs.Prelude.{◌≡◌, refl, Bool, ◌&&◌, List, ◌∷◌, ℕ, zero, suc, ◌+◌, ◌*◌, ◌≤◌, length, take, drop, get_or}
use Rattle.std.specs.Simd.{first_chunks}
use Rattle.std.specs.List.{list_all}
use Rattle.std.proofs.Common.{sym, ◌∙◌, ap, ◌++◌, map, [], add-one, mul-suc, mul-zero, arith}
use Rattle.std.proofs.lemmas.List.{map-append}
use Rattle.std.proofs.Math.Seq.{drop-drop}
use Rattle.std.proofs.lemmas.List.Folds.{list_all_more}
use Rattle.laws.specs.All.{all_to}
use Rattle.laws.specs.Fill.{list_to, list_to_same}
use Rattle.laws.specs.Splice.{part}

list_to_front : {A : Type 0} (f : ℕ → A) (k : ℕ) → list_to f (suc k) ≡ f 0 ∷ list_to (λ i. f (suc i)) k
unfolding list_to
list_to_front f zero = refl
list_to_front f (suc k) = rw (list_to_front f k) refl

module _ {A : Type 0} where
  -- the first k parts of n elements each
  pub chunks_parts : (n k : ℕ) (l : List A) → first_chunks n k l ≡ list_to (λ i. part l (n * i) n) k
  unfolding list_to part
  chunks_parts n zero l = refl
  chunks_parts n (suc k) l =
      sym (list_to_front (λ i. part l (n * i) n) k
      ∙ rw mul-zero
      (ap (λ (rest : List (List A)). take n l ∷ rest)
      (list_to_same (λ i. part l (n * suc i) n) (λ i. part (drop n l) (n * i) n) k
      (λ i h. let e : n * suc i ≡ n + n * i = rw mul-suc (omega arith) in ap (take n) (rw (e, drop-drop) refl))
      ∙ sym (chunks_parts n k (drop n l)))))

  -- all of the first p elements pass a test
  pub all_first : (f : A → Bool) (l : List A) (d : A) (p : ℕ) → p ≤ length l → list_all f (take p l) ≡ all_to (λ i. f (get_or l i d)) p
  unfolding all_to
  all_first f l d zero h = refl
  all_first f l d (suc p) h =
      rw (← add-one p) (list_all_more f l p d h ∙ ap (λ (b : Bool). b && f (get_or l p d)) (all_first f l d p (omega arith)))

pub map_list_to : {A B : Type 0} (g : A → B) (f : ℕ → A) (k : ℕ) → map g (list_to f k) ≡ list_to (λ i. g (f i)) k
unfolding list_to
map_list_to g f zero = refl
map_list_to g f (suc k) = map-append g (list_to f k) (f k ∷ []) ∙ ap (λ (l : List _). l ++ (g (f k) ∷ [])) (map_list_to g f k)
