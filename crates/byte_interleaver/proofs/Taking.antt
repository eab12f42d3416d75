-- The memory while a word is taken in, for waits that fit.
--     ways_fit                                       the waits of both ways do
--     back_is, there_is                              the waits of a way that is a const parameter
--     first_way_back, first_way_there                where its branches begin
--     back_waits, there_waits                        which of them wait
--     some_waits, none_waits                         what that test says of a branch's waits
--     newest_none, newest_more, newest_all           a loop that puts 17 bytes of a word into the memory
--     byte_own, byte_old, byte_in                    the byte that comes out of a branch
--     Renewed                                        the branches below one hold what they hold after the word
--     newest_place                                   where the newest bytes of a branch stand
--     renewed_none, renewed_more, renewed_all        a loop that renews the branches that wait
--     renewed_skip                                   past a branch that does not wait
use mathlib.Core.Path.{◌≡◌, refl, sym, ap, ◌∙◌, subst}
use mathlib.Core.Bool.{Bool, true, false, not}
use mathlib.Core.List.{List}
use Prim.Native.Nat.{ℕ, ◌+◌, ◌-◌, ◌*◌, ◌/◌, ◌<◌, ◌≤◌}
use native.Mathlib.Numerals.{add-one}
use native.Mathlib.Decide.{ℕ_discrete, dec_lt}
use native.Mathlib.Omega.{arith}
use lib.Dec.{ltb, eqb as nat_eq}
use lib.ListN.{length, get_or, set, length-set}
use lib.Seq.{get_or-set_same, get_or-set_other}
use Rattle.rules.specs.Bytes.{waits_there, waits_back, branch_size, branch_start, stream_byte, memory_after}
use borrow.Author.Tests.{ltb-true, ltb-false, lt-ltb, eq-eqb, ne_eqb}
use Rattle.byte_interleaver.specs.Steps.{Moved, Newest, waits_of}
use Rattle.lists.proofs.Pieces.{start_more, start_mono}
use Rattle.rules.proofs.Memory.{memory_ext}
use Rattle.rules.proofs.Ways.{Fits, there_fits, back_fits, first_there, first_back}
use Rattle.rules.proofs.Stream.{stream_early, stream_late}

pub ways_fit : (back : Bool) → Fits (waits_of back)
ways_fit true = back_fits
ways_fit false = there_fits

-- a way as a const parameter is a number: 0 there, and another back
pub back_is : (way : ℕ) → (way ≡ 0 → ⊥) → waits_of (not (nat_eq way 0)) ≡ waits_back
back_is way back = rw (ne_eqb way 0 back) refl

pub there_is : (way : ℕ) → way ≡ 0 → waits_of (not (nat_eq way 0)) ≡ waits_there
there_is way there = rw (eq-eqb way 0 there) refl

pub first_way_back : (way i : ℕ) → (way ≡ 0 → ⊥) → i ≤ 12
    → 17 * (i * (23 - i) / 2) ≡ branch_start (waits_of (not (nat_eq way 0))) i
first_way_back way i back h = rw (back_is way back) (first_back i h)

pub first_way_there : (way i : ℕ) → way ≡ 0 → i ≤ 12
    → 17 * ((i * i - i) / 2) ≡ branch_start (waits_of (not (nat_eq way 0))) i
first_way_there way i there h = rw (there_is way there) (first_there i h)

pub back_waits : (way i : ℕ) → (way ≡ 0 → ⊥) → i < 12
    → not (nat_eq i 11) ≡ ltb 0 (waits_of (not (nat_eq way 0)) i)
back_waits way i back h = rw (back_is way back) (unfold waits_back in elim (ℕ_discrete i 11) [
  | yes last ↦ rw last refl
  | no other ↦ rw (ne_eqb i 11 other) (sym (lt-ltb 0 (11 - i) (omega arith)))
])

pub there_waits : (way i : ℕ) → way ≡ 0 → not (nat_eq i 0) ≡ ltb 0 (waits_of (not (nat_eq way 0)) i)
there_waits way i there = rw (there_is way there) (unfold waits_there in elim (ℕ_discrete i 0) [
  | yes first ↦ rw first refl
  | no other ↦ rw (ne_eqb i 0 other) (sym (lt-ltb 0 i (omega arith)))
])

pub some_waits : {test : Bool} {n : ℕ} → test ≡ ltb 0 n → test ≡ true → 0 < n
some_waits {test} {n} is some = ltb-true 0 n (sym is ∙ some)

pub none_waits : {test : Bool} {n : ℕ} → test ≡ ltb 0 n → test ≡ false → n ≡ 0
none_waits {test} {n} is none = let most : n ≤ 0 = ltb-false 0 n (sym is ∙ none) in omega arith

module _ (at i : ℕ) (word old : List ℕ) where
  pub newest_none : length old ≡ 1122 → Newest at i 0 word old old
  newest_none e =
      record { len = e; done = λ t lt. absurd (omega arith); before = λ k lt. refl; behind = λ k le. refl }

  pub newest_more : {t : ℕ} {new : List ℕ} → Newest at i t word old new → at + t < 1122 → (v : ℕ)
      → v ≡ get_or word (12 * t + i) 0 → Newest at i (t + 1) word old (set new (at + t) v)
  newest_more {t} {new} p h v e = record {
    len = length-set new (at + t) v ∙ p.len;
    done = λ n lt. elim (ℕ_discrete n t) [
      | yes q ↦ rw q (get_or-set_same new (at + t) v 0 (omega (arith, p.len)) ∙ e)
      | no q ↦ get_or-set_other new (at + t) (at + n) v 0 (omega arith) ∙ p.done n (omega arith)
    ];
    before = λ k lt. get_or-set_other new (at + t) k v 0 (omega arith) ∙ p.before k lt;
    behind = λ k le. get_or-set_other new (at + t) k v 0 (omega arith) ∙ p.behind k (omega arith);
  }

  pub newest_all : {t : ℕ} {new : List ℕ} → Newest at i t word old new → (n : ℕ) → t ≡ n → Newest at i n word old new
  newest_all {t} {new} p n e = subst (λ (m : ℕ). Newest at i m word old new) e p

-- ---- the byte that comes out of a branch

module _ (waits : ℕ → ℕ) (fits : Fits waits) (memory : List ℕ) (sent : ℕ → ℕ) (t i : ℕ) (turn : t < 17)
    (branch : i < 12) where
  -- of a branch that does not wait, the word's own
  pub byte_own : waits i ≡ 0 → sent (12 * t + i) ≡ stream_byte waits memory sent (12 * t + i)
  byte_own none =
      ap sent (omega arith) ∙ sym (stream_late waits memory sent (12 * t + i) i (omega arith) (omega arith))

  -- of a branch that waits, the oldest byte that is left
  module _ (some : 0 < waits i) where
    pub byte_old : get_or memory (branch_start waits i + t) 0 ≡ stream_byte waits memory sent (12 * t + i)
    byte_old =
        let at : (12 * t + i) / 12 ≡ t = omega arith in
        ap (λ (k : ℕ). get_or memory (branch_start waits i + k) 0) (sym at)
        ∙ sym (stream_early waits memory sent (12 * t + i) i (omega arith) (omega arith))

    pub byte_in : branch_start waits i + t < 1122
    byte_in = omega (arith, fits.full, start_mono (branch_size waits) i 12 branch)

-- ---- the branches are renewed one by one

-- the branches below n hold what they hold after the word, and the others their bytes, 17 places down
pub record Renewed (waits : ℕ → ℕ) (memory word : List ℕ) (n : ℕ) (next : List ℕ) : Type 0 where
  pub len : length next ≡ 1122
  pub fresh : (i q : ℕ) → i < n → i < 12 → q < 17 * waits i
      → get_or next (branch_start waits i + q) 0
      ≡ stream_byte waits memory (λ b. get_or word b 0) (204 * 1 + 12 * q + i)
  pub stale : (i q : ℕ) → n ≤ i → i < 12 → q + 17 < 17 * waits i
      → get_or next (branch_start waits i + q) 0 ≡ get_or memory (branch_start waits i + q + 17) 0

module _ (waits : ℕ → ℕ) (fits : Fits waits) where
  -- the bytes of branch n end where those of the next begin
  end_of : (n : ℕ) → branch_start waits (n + 1) ≡ branch_start waits n + 17 * waits n
  end_of n = rw add-one (start_more (branch_size waits) n)

  -- the newest bytes of a branch that waits stand within the memory
  pub newest_place : (n : ℕ) → n < 12 → 0 < waits n
      → (17 ≤ branch_start waits (n + 1)) × (branch_start waits (n + 1) ≤ 1122)
  newest_place n branch some =
      let e = end_of n in (omega arith, omega (arith, fits.full, start_mono (branch_size waits) n 12 branch))

  module _ (memory word : List ℕ) where
    pub renewed_none : (next : List ℕ) → Moved memory next → Renewed waits memory word 0 next
    renewed_none next m = record {
      len = m.len;
      fresh = λ i q none h lt. absurd (omega arith);
      stale = λ i q le h lt. m.down (branch_start waits i + q)
          (omega (arith, fits.full, start_mono (branch_size waits) i 12 h));
    }

    -- a branch that does not wait has no bytes
    pub renewed_skip : (n : ℕ) (next : List ℕ) → waits n ≡ 0 → Renewed waits memory word n next
        → Renewed waits memory word (n + 1) next
    renewed_skip n next none r = record {
      len = r.len;
      fresh = λ i q less h lt. elim (ℕ_discrete i n) [
        | yes e ↦ absurd (let w : waits i ≡ 0 = rw e none in omega arith)
        | no ne ↦ r.fresh i q (omega arith) h lt
      ];
      stale = λ i q le h lt. r.stale i q (omega arith) h lt;
    }

    module _ (n at : ℕ) (branch : n < 12) (some : 0 < waits n) (place : at ≡ branch_start waits (n + 1) - 17)
        (old new : List ℕ) (r : Renewed waits memory word n old) (p : Newest at n 17 word old new) where
      -- byte q of branch n
      renewed : (q : ℕ) → q < 17 * waits n
          → get_or new (branch_start waits n + q) 0
          ≡ stream_byte waits memory (λ b. get_or word b 0) (204 * 1 + 12 * q + n)
      renewed q lt =
          let e = end_of n in
          let b = 204 * 1 + 12 * q + n in
          let turn : (204 * 1 + 12 * q + n) / 12 ≡ q + 17 = omega arith in
          elim (dec_lt (q + 17) (17 * waits n)) [
            | yes l ↦
                p.before (branch_start waits n + q) (omega arith) ∙ r.stale n q (omega arith) branch l
                ∙ ap (λ (k : ℕ). get_or memory k 0) {x = branch_start waits n + q + 17}
                {y = branch_start waits n + (204 * 1 + 12 * q + n) / 12} (omega arith)
                ∙ sym (stream_early waits memory (λ b. get_or word b 0) b n (omega arith) (omega arith))
            | no l ↦
                ap (λ (k : ℕ). get_or new k 0) {x = branch_start waits n + q} {y = at + (q + 17 - 17 * waits n)}
                (omega arith) ∙ p.done (q + 17 - 17 * waits n) (omega arith)
                ∙ ap (λ (k : ℕ). get_or word k 0) {x = 12 * (q + 17 - 17 * waits n) + n}
                {y = 204 * 1 + 12 * q + n - 204 * waits n} (omega arith)
                ∙ sym (stream_late waits memory (λ b. get_or word b 0) b n (omega arith) (omega arith))
          ]

      pub renewed_more : Renewed waits memory word (n + 1) new
      renewed_more = record {
        len = p.len;
        fresh = λ i q less h lt. elim (ℕ_discrete i n) [
          | yes e ↦ rw e (renewed q (rw e at lt))
          | no ne ↦
              let mono = start_mono (branch_size waits) i n (omega arith) in
              let e = end_of n in
              p.before (branch_start waits i + q) (omega arith) ∙ r.fresh i q (omega arith) h lt
        ];
        stale = λ i q le h lt.
            let mono = start_mono (branch_size waits) n i (omega arith) in
            let e = end_of n in
            p.behind (branch_start waits i + q) (omega arith) ∙ r.stale i q (omega arith) h lt;
      }

    pub renewed_all : (n : ℕ) (next : List ℕ) → n ≡ 12 → Renewed waits memory word n next
        → next ≡ memory_after waits memory (λ b. get_or word b 0) 1
    renewed_all n next e r =
        memory_ext waits fits memory (λ b. get_or word b 0) 1 next r.len (λ i q h lt. r.fresh i q (omega arith) h lt)
