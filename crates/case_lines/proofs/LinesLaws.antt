-- What is proved of the definitions in specs/Lines.antt. Assumes nothing.
use mathlib.Core.Path.{◌≡◌, refl, sym, ◌∙◌, ap}
use mathlib.Core.List.{List, [], ◌∷◌, ◌++◌, append-nil}
use Prim.Native.Nat.{ℕ, ◌+◌, ◌-◌, ◌*◌, ◌%◌, ◌<◌, ◌≤◌}
use native.Mathlib.Nat.{zero-add, mul-zero, mul-one, mul-add, mod-add-mod, add-mod-mod, add-sub_cancel_left}
use native.Mathlib.Omega.{arith}
use lib.ListN.{length, take, drop, set, length-drop}
use lib.Seq.{length-take-le}
use borrow.Author.Rules.{rules}
use Rattle.laws.specs.Splice.{splice, stores, lent_filled, rest, rest_end, splice_all}
use Rattle.laws.specs.Ascii.{ascii}
use Rattle.laws.specs.Clear.{zeros}
use Rattle.laws.specs.Fill.{list_to, length_list_to}
use Rattle.wire.specs.Number.{bytes}
use Rattle.state.specs.State.{state_size}
use Rattle.case_words.specs.Fields.{field_of, number_of, decimal, words, behind, up_to}
use Rattle.case_words.specs.Patch.{patched, put_all, put_word, put, bytes_of}
use Rattle.case_words.proofs.PatchLaws.{put_none, put_more}
use Rattle.case_lines.specs.Lines.{staged_line, count_line, pattern_at, filled_by, block_line, head_start, header_put, request_bytes}

-- ---- a loop that fills with a pattern

pub fill_none : (d : List ℕ) (step : ℕ) → d ≡ splice d 0 (list_to (pattern_at step) 0)
fill_none d step = put_none d 0 (pattern_at step)

pub fill_step : (step : ℕ) → 0 ≡ step * 0 % 251
fill_step step = rw mul-zero

pub fill_next : (step i v by : ℕ) → v ≡ step * i % 251 → by ≡ step % 251 → (v + by) % 251 ≡ step * (i + 1) % 251
fill_next step i v by p q = rw (p, q, mul-add, mul-one, mod-add-mod, add-mod-mod)

pub fill_more : (d d₀ : List ℕ) (step i v by : ℕ) → i < length d → length d ≡ length d₀ → v ≡ step * i % 251 → by ≡ step % 251
    → d ≡ splice d₀ 0 (list_to (pattern_at step) i) → set d i ((v + by) % 251) ≡ splice d₀ 0 (list_to (pattern_at step) (i + 1))
fill_more d d₀ step i v by h l p q e =
    ap (λ (k : ℕ). set d k ((v + by) % 251)) (sym (zero-add i))
    ∙ put_more d d₀ 0 i (length d₀) ((v + by) % 251) (pattern_at step) (omega arith) (omega arith) (fill_next step i v by p q) e

pub fill_done : (d d₀ : List ℕ) (step i : ℕ) → i ≤ length d₀ → length d ≤ i → length d ≡ length d₀ → d ≡ splice d₀ 0 (list_to (pattern_at step) i)
    → d ≡ filled_by step (length d₀)
unfolding filled_by
fill_done d d₀ step i h k l e =
    let n : i ≡ length d₀ = omega arith in
    splice_all d₀ (list_to (pattern_at step) (length d₀)) d (length_list_to (pattern_at step) (length d₀)) (e ∙ ap (λ (j : ℕ). splice d₀ 0 (list_to (pattern_at step) j)) n)

pub ruleset pattern_loop = (fill_none, fill_step, fill_next, fill_more, fill_done, rules)

-- ---- one call after the other

pub block_by : (m x s : List ℕ) (n : ℕ) → n ≡ field_of s 1 → x ≡ patched (take (length m - 512 * (n % 128)) (drop (512 * (n % 128)) m)) s 2
    → take (512 * (n % 128)) m ++ (x ++ drop (length m - 512 * (n % 128)) (drop (512 * (n % 128)) m)) ≡ block_line m s
unfolding block_line
block_by m x s n p e = rw (e, rest, rest_end, append-nil, p)

pub headed_by : (b x y r : List ℕ) (control n : ℕ) → x ≡ splice b 0 head_start → y ≡ splice x 16 (bytes 4 control) → r ≡ splice y 24 (bytes 4 n) → r ≡ header_put b control n
unfolding header_put
headed_by b x y r control n p q e = e ∙ ap (λ (l : List ℕ). splice l 24 (bytes 4 n)) (q ∙ ap (λ (l : List ℕ). splice l 16 (bytes 4 control)) p)

pub request_by : (x y r s : List ℕ) (n a b d : ℕ) → a ≡ field_of s 3 → x ≡ filled_by a n → b ≡ field_of s 4 → d ≡ field_of s 5 → y ≡ header_put x b d
    → r ≡ patched y s 6 → r ≡ request_bytes s n
unfolding request_bytes
request_by x y r s n a b d p e q t f g = g ∙ rw (f, e, p, q, t)

pub part_by : (d m r s : List ℕ) → m ≡ zeros (length d) → r ≡ patched m s 2 → r ≡ patched (zeros (length d)) s 2
part_by d m r s p q = q ∙ ap (λ (l : List ℕ). patched l s 2) p

-- a part of w bytes, lent and given back
pub lent_part : (m x s : List ℕ) (at w : ℕ) → at + w ≤ length m → length x ≡ length (take (at + w - at) (drop at m))
    → x ≡ patched (zeros (length (take (at + w - at) (drop at m)))) s 2 → take at m ++ (x ++ drop (at + w - at) (drop at m)) ≡ splice m at (patched (zeros w) s 2)
lent_part m x s at w h k e =
    let l : length (take (at + w - at) (drop at m)) ≡ w = length-take-le (at + w - at) (drop at m) (rw length-drop (omega arith)) ∙ add-sub_cancel_left at w in
    lent_filled m x (patched (zeros w) s 2) at (at + w - at) (k ∙ l ∙ sym (add-sub_cancel_left at w)) (e ∙ ap (λ (n : ℕ). patched (zeros n) s 2) l)

pub count_by : (m s : List ℕ) (a b d : ℕ) → length m ≡ state_size → a ≡ field_of s 1 → b ≡ field_of s 2 → d ≡ field_of s 3
    → set (set (set m 0 (a % 256)) 1 (b % 256)) 2 (d % 256) ≡ count_line m s
unfolding count_line
count_by m s a b d h p q e = rw (p, q, e) (stores m 0 (field_of s 1 % 256 ∷ field_of s 2 % 256 ∷ field_of s 3 % 256 ∷ []) (omega arith))

pub staged_by : (m x s : List ℕ) (a : ℕ) → length m ≡ state_size → length x ≡ length m → a ≡ field_of s 1 → x ≡ splice m 6182 (patched (zeros 8) s 2) → set x 6181 (a % 256) ≡ staged_line m s
unfolding staged_line
staged_by m x s a h k p q = rw p (stores x 6181 (field_of s 1 % 256 ∷ []) (omega arith) ∙ ap (λ (l : List ℕ). splice l 6181 (field_of s 1 % 256 ∷ [])) q)

-- ---- lines as they stand in stdin

field_of_lem : field_of (ascii "l 2 31 5") 2 ≡ 31
unfolding field_of number_of decimal words ascii
field_of_lem = refl

put_in : patched (zeros 4) (ascii "w 7 1:0aff 3:010203") 2 ≡ 0 ∷ 10 ∷ 255 ∷ 1 ∷ []
unfolding patched put_all put_word put bytes_of list_to splice number_of decimal behind up_to words ascii
put_in = refl
