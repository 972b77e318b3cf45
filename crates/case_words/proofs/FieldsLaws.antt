-- What is proved of the definitions in specs/Fields.antt. Assumes nothing.
use mathlib.Core.Path.{◌≡◌, refl, sym, ◌∙◌, ap}
use mathlib.Core.Bool.{Bool, true, false, cond, not}
use mathlib.Core.List.{List, [], ◌∷◌}
use Prim.Native.Nat.{ℕ, zero, suc, ◌+◌, ◌-◌, ◌*◌, ◌/◌, ◌%◌, ◌<◌, ◌≤◌}
use native.Mathlib.Numerals.{add-one, one-add}
use native.Mathlib.Nat.{le_antisymm, mod-eq_of_lt, mod-add-div, mod-add-mod, add-mul-mod_self_left, add-zero, zero-add}
use native.Mathlib.Omega.{arith}
use lib.Dec.{eqb, ltb}
use Rattle.std.specs.Prelude.{Some, None, position, nat_eq, nat_lt}
use Rattle.std.specs.List.{position_or_len}
use Rattle.std.proofs.lemmas.Option.{cond_some, none-some}
use Rattle.laws.specs.Splice.{rest}
use lib.ListN.{length, get_or, take, drop, drop_of_length-le}
use lib.Seq.{drop-cons, drop-drop, get_or-drop, take_all}
use borrow.Author.Rules.{rules}
use borrow.Author.Tests.{ltb-false, eq-eqb, ne_eqb}
use Rattle.laws.specs.Choice.{by_bool}
use Rattle.case_words.specs.Fields.{joined_words, words, pieces, is_digit, digit_of, decimal, number_of, field_of, up_to, behind, from_word, index_of}

-- ---- the first c

length_up_to : (c : ℕ) (l : List ℕ) → length (up_to c l) ≡ position_or_len (λ b. nat_eq b c) l
unfolding up_to
length_up_to c [] = refl
length_up_to c (b ∷ l) =
    by_bool (λ (t : Bool). length (cond t [] (b ∷ up_to c l)) ≡ cond (not t) (1 + position_or_len (λ b. nat_eq b c) l) 0) refl
    (ap suc (length_up_to c l) ∙ sym (one-add (position_or_len (λ b. nat_eq b c) l))) (eqb b c)

take_up_to : (c : ℕ) (l : List ℕ) → take (length (up_to c l)) l ≡ up_to c l
unfolding up_to
take_up_to c [] = refl
take_up_to c (b ∷ l) =
    by_bool (λ (t : Bool). take (length (cond t [] (b ∷ up_to c l))) (b ∷ l) ≡ cond t [] (b ∷ up_to c l)) refl (ap (◌∷◌ b) (take_up_to c l)) (eqb b c)

module _ (s : List ℕ) (c : ℕ) where
  found_at : (at : ℕ) → Some at ≡ position (λ b. nat_eq b c) s → at ≡ length (up_to c s)
  found_at at e = sym (cond_some (nat_lt (position_or_len (λ b. nat_eq b c) s) (length s)) (position_or_len (λ b. nat_eq b c) s) at (sym e)).1 ∙ sym (length_up_to c s)

  pub front_found : (at : ℕ) → Some at ≡ position (λ b. nat_eq b c) s → take at s ≡ up_to c s
  front_found at e = rw (found_at at e) (take_up_to c s)

  pub behind_found : (at : ℕ) → Some at ≡ position (λ b. nat_eq b c) s → take (length s - (at + 1)) (drop (at + 1) s) ≡ behind c s
  unfolding behind
  behind_found at e = rest s (at + 1) ∙ ap (λ (n : ℕ). drop n s) (add-one at ∙ ap suc (found_at at e))

  none_found : None ≡ position (λ b. nat_eq b c) s → length s ≤ length (up_to c s)
  none_found e =
      let q : length (up_to c s) ≡ position_or_len (λ b. nat_eq b c) s = length_up_to c s in
      by_bool (λ (t : Bool). ltb (position_or_len (λ b. nat_eq b c) s) (length s) ≡ t → None ≡ cond t (Some (position_or_len (λ b. nat_eq b c) s)) None → length s ≤ length (up_to c s))
      (λ p e. absurd (none-some (position_or_len (λ b. nat_eq b c) s) e)) (λ p e. rw q (ltb-false (position_or_len (λ b. nat_eq b c) s) (length s) p)) (ltb (position_or_len (λ b. nat_eq b c) s) (length s)) refl e

  pub front_none : None ≡ position (λ b. nat_eq b c) s → s ≡ up_to c s
  front_none e = sym (take_all (length (up_to c s)) s (none_found e)) ∙ take_up_to c s

  pub behind_none : None ≡ position (λ b. nat_eq b c) s → [] ≡ behind c s
  unfolding behind
  behind_none e = sym (drop_of_length-le s {i = suc (length (up_to c s))} (let h : length s ≤ length (up_to c s) = none_found e in omega arith))

-- ---- where it is

pub index_hit : (s : List ℕ) (from c i : ℕ) → i < length s → get_or s i 0 ≡ c → index_of s from c ≡ index_of s i c → i ≡ index_of s from c
unfolding index_of up_to
index_hit s from c i h q e = sym (e ∙ rw (drop-cons s i 0 h, eq-eqb (get_or s i 0) c q) (omega arith))

pub index_miss : (s : List ℕ) (from c i : ℕ) → i < length s → (get_or s i 0 ≡ c → ⊥) → index_of s from c ≡ index_of s i c → index_of s from c ≡ index_of s (i + 1) c
unfolding index_of up_to
index_miss s from c i h q e = rw add-one (e ∙ rw (drop-cons s i 0 h, ne_eqb (get_or s i 0) c q) (omega arith))

pub index_none : (s : List ℕ) (from c i : ℕ) → length s ≤ i → index_of s from c ≡ index_of s i c → i ≡ index_of s from c
unfolding index_of up_to
index_none s from c i h e = sym (e ∙ rw (drop_of_length-le s {i = i} h) (omega arith))

-- the front ends there
pub front_index : (s f : List ℕ) (c : ℕ) → f ≡ up_to c s → length f ≡ index_of s 0 c
unfolding index_of
front_index s f c e = ap length e ∙ sym (zero-add (length (up_to c s)))

-- ---- pieces, and where a word starts

pub pieces_next : (c : ℕ) (l : List ℕ) → 0 < length l → pieces c l ≡ up_to c l ∷ pieces c (behind c l)
unfolding up_to behind
pieces_next c [] some = absurd (omega arith)
pieces_next c (b ∷ []) some = by_bool (λ (t : Bool). cond t ([] ∷ []) ((b ∷ []) ∷ []) ≡ cond t [] (b ∷ []) ∷ pieces c (drop (suc (length (cond t [] (b ∷ [])))) (b ∷ []))) refl refl (eqb b c)
pieces_next c (b ∷ d ∷ l) some =
    by_bool (λ (t : Bool). cond t ([] ∷ pieces c (d ∷ l)) (joined_words b (pieces c (d ∷ l)))
    ≡ cond t [] (b ∷ up_to c (d ∷ l)) ∷ pieces c (drop (suc (length (cond t [] (b ∷ up_to c (d ∷ l))))) (b ∷ d ∷ l))) refl (ap (joined_words b) (pieces_next c (d ∷ l) (omega arith))) (eqb b c)

pub pieces_words : (l : List ℕ) → pieces 32 l ≡ words l
unfolding words
pieces_words [] = refl
pieces_words (b ∷ l) = ap (λ (ws : List (List ℕ)). cond (eqb b 32) ([] ∷ ws) (joined_words b ws)) (pieces_words l)

pub word_none : (s : List ℕ) → s ≡ from_word s 0
unfolding from_word
word_none s = refl

pub word_more : (s r x : List ℕ) (n : ℕ) → r ≡ from_word s n → x ≡ behind 32 r → x ≡ from_word s (n + 1)
unfolding from_word
word_more s r x n e q = rw add-one (q ∙ ap (behind 32) e)

pub from_done : (s : List ℕ) (at n k : ℕ) → n ≤ k → k ≤ n → drop at s ≡ from_word s n → drop at s ≡ from_word s k
from_done s at n k h l e = e ∙ ap (from_word s) (le_antisymm h l)

-- ---- the loop that reads a number

rest_ten : (v d : ℕ) → (v * 10 + d) % 4294967296 ≡ (v % 4294967296 * 10 + d) % 4294967296
rest_ten v d =
    let e : v * 10 + d ≡ v % 4294967296 * 10 + d + 4294967296 * (v / 4294967296 * 10) = omega (arith, mod-add-div v 4294967296) in
    rw e (add-mul-mod_self_left (v % 4294967296 * 10 + d) 4294967296 (v / 4294967296 * 10))

-- only the rest of what came before counts
decimal_rest : (w : List ℕ) (v : ℕ) → decimal v w % 4294967296 ≡ decimal (v % 4294967296) w % 4294967296
unfolding decimal
decimal_rest [] v = omega arith
decimal_rest (c ∷ w) v =
    by_bool (λ (t : Bool). cond t (decimal (v * 10 + digit_of c) w) v % 4294967296 ≡ cond t (decimal (v % 4294967296 * 10 + digit_of c) w) (v % 4294967296) % 4294967296)
    (decimal_rest w (v * 10 + digit_of c) ∙ ap (λ (x : ℕ). decimal x w % 4294967296) (rest_ten v (digit_of c)) ∙ sym (decimal_rest w (v % 4294967296 * 10 + digit_of c))) (omega arith) (is_digit c)

pub number_none : (w : List ℕ) → number_of w ≡ decimal 0 (drop 0 w) % 4294967296
unfolding number_of
number_none w = refl

pub number_more : (w : List ℕ) (i v : ℕ) → i < length w → true ≡ is_digit (get_or w i 0) → number_of w ≡ decimal v (drop i w) % 4294967296
    → number_of w ≡ decimal ((v * 10 % 4294967296 + digit_of (get_or w i 0)) % 4294967296) (drop (i + 1) w) % 4294967296
unfolding decimal
number_more w i v h q n =
    rw (add-one, mod-add-mod) (n ∙ rw (drop-cons w i 0 h, sym q) (decimal_rest (drop (suc i) w) (v * 10 + digit_of (get_or w i 0))))

pub number_stop : (w : List ℕ) (i v : ℕ) → i < length w → false ≡ is_digit (get_or w i 0) → v < 4294967296
    → number_of w ≡ decimal v (drop i w) % 4294967296 → v ≡ number_of w
unfolding decimal
number_stop w i v h q l n = sym (n ∙ rw (drop-cons w i 0 h, sym q) (mod-eq_of_lt l))

pub number_end : (w : List ℕ) (i v : ℕ) → length w ≤ i → v < 4294967296 → number_of w ≡ decimal v (drop i w) % 4294967296 → v ≡ number_of w
unfolding decimal
number_end w i v h l n = sym (n ∙ rw (drop_of_length-le w {i = i} h) (mod-eq_of_lt l))

pub ruleset number_loop = (number_none, number_more, number_stop, number_end, rules)

-- ---- the words

words_next : (l : List ℕ) → 0 < length l → words l ≡ up_to 32 l ∷ words (behind 32 l)
words_next l some = sym (pieces_words l) ∙ pieces_next 32 l some ∙ ap (◌∷◌ (up_to 32 l)) (pieces_words (behind 32 l))

first_word : (l : List ℕ) → get_or (words l) 0 [] ≡ up_to 32 l
unfolding words up_to
first_word [] = refl
first_word (b ∷ l) = ap (λ (ws : List (List ℕ)). get_or ws 0 []) (words_next (b ∷ l) (omega arith))

other_words : (l : List ℕ) → words (behind 32 l) ≡ drop 1 (words l)
unfolding words up_to behind
other_words [] = refl
other_words (b ∷ l) = sym (ap (drop 1) (words_next (b ∷ l) (omega arith)))

-- the words from word k on
pub words_from : (s : List ℕ) (k : ℕ) → words (from_word s k) ≡ drop k (words s)
unfolding from_word
words_from s zero = refl
words_from s (suc k) = other_words (from_word s k) ∙ ap (drop 1) (words_from s k) ∙ drop-drop 1 k (words s) ∙ rw add-one

word_at : (s : List ℕ) (k : ℕ) → get_or (words s) k [] ≡ up_to 32 (from_word s k)
word_at s k =
    sym (get_or-drop k (words s) 0 [] ∙ rw add-zero) ∙ ap (λ (ws : List (List ℕ)). get_or ws 0 []) (sym (words_from s k)) ∙ first_word (from_word s k)

pub field_by : (s r w : List ℕ) (k n : ℕ) → r ≡ from_word s k → w ≡ up_to 32 r → n ≡ number_of w → n ≡ field_of s k
unfolding field_of
field_by s r w k n p q e = e ∙ ap number_of (q ∙ ap (up_to 32) p ∙ sym (word_at s k))
