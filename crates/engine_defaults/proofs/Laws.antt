-- What the code of each function comes to.
use Prim.Native.Nat.{ℕ, zero, suc, ◌+◌, ◌-◌, ◌<◌, ◌≤◌}
use mathlib.Core.Path.{◌≡◌, refl, sym, ap, ◌∙◌}
use mathlib.Core.List.{List}
use native.Mathlib.Omega.{arith}
use native.Mathlib.Decide.{dec_lt, ℕ_discrete}
use lib.ListN.{length, get_or, set, replicate, length-set, get_or-replicate}
use lib.Seq.{ext_get_or, get_or-set_same, get_or-set_other}
use lib.IntN.{ℤ, pos}
use borrow.Author.Tests.{lt-ltb, le-ltb}
use Rattle.sheet.specs.declared.Record.{Record}
use Rattle.sheet.specs.Table.{look_up}
use Rattle.sheet_rules.specs.Fields.{field_of, field_at, type_at}
use Rattle.sheet_rules.specs.DataTypes.{data_type_of}
use Rattle.sheet_rules.proofs.DataTypes.{type_no_data, type_enumerated}
use Rattle.machine.specs.Values.{default_in, default_of}
use Rattle.machine.specs.Run.{local_at, list_from, locals_of}

-- ---- defaults

pub default_zero : (s : List ℕ) (t : ℕ) → t < 8 → pos 0 ≡ default_of s t
unfolding default_of default_in data_type_of look_up
default_zero s zero l = refl
default_zero s (suc zero) l = refl
default_zero s (suc (suc zero)) l = refl
default_zero s (suc (suc (suc zero))) l = refl
default_zero s (suc (suc (suc (suc t)))) l = sym (ap (default_in s) (type_no_data (suc (suc (suc (suc t)))) (omega arith) l))

pub default_member_lem : (s : List ℕ) (t x : ℕ) → 8 ≤ t → x ≡ field_at s 1 (t - 8) 1 → pos x ≡ default_of s t
unfolding default_of default_in field_at field_of
default_member_lem s t x l e = ap pos e ∙ sym (ap (default_in s) (type_enumerated t l))

-- ---- a body's variables

module _ (s : List ℕ) (b : Record) (zs : List ℤ) where
  pub local_parameter : (i : ℕ) → i < b.f4 → get_or zs i (pos 0) ≡ local_at s b zs i
  unfolding local_at
  local_parameter i l = rw (local_at, lt-ltb i b.f4 l) refl

  pub local_default : (i : ℕ) → b.f4 ≤ i → i < b.f4 + b.f6 → default_of s (type_at s (b.f5 + (i - b.f4))) ≡ local_at s b zs i
  unfolding local_at
  local_default i l m = rw (local_at, le-ltb i b.f4 l, lt-ltb i (b.f4 + b.f6) m) refl

  -- a word that the body doesn't have
  local_none : (i : ℕ) → b.f4 + b.f6 ≤ i → pos 0 ≡ local_at s b zs i
  unfolding local_at
  local_none i l = rw (local_at, le-ltb i b.f4 (omega arith), le-ltb i (b.f4 + b.f6) l) refl

  list_length : (n i : ℕ) (f : ℕ → ℤ) → length (list_from n i f) ≡ n
  unfolding list_from
  list_length zero i f = refl
  list_length (suc n) i f = ap suc (list_length n (suc i) f)

  list_word : (n i k : ℕ) (f : ℕ → ℤ) → k < n → get_or (list_from n i f) k (pos 0) ≡ f (i + k)
  unfolding list_from
  list_word zero i k f l = absurd (omega arith)
  list_word (suc n) i zero f l = let e : i + 0 ≡ i = omega arith in rw e refl
  list_word (suc n) i (suc k) f l = let e : i + suc k ≡ suc i + k = omega arith in rw e (list_word n (suc i) k f (omega arith))

  -- the first i words are the body's, the others still 0
  pub record Begun (i : ℕ) (lo : List ℤ) : Type 0 where
    pub whole : length lo ≡ 16
    pub done : (k : ℕ) → k < i → get_or lo k (pos 0) ≡ local_at s b zs k
    pub rest : (k : ℕ) → i ≤ k → k < 16 → get_or lo k (pos 0) ≡ pos 0

  pub begun_none : Begun 0 (replicate 16 (pos 0))
  begun_none = record { whole = refl; done = λ k l. absurd (omega arith); rest = λ k l m. get_or-replicate 16 k (pos 0) (pos 0) m }

  pub begun_more : (i : ℕ) (lo : List ℤ) (z : ℤ) → i < 16 → z ≡ local_at s b zs i → Begun i lo → Begun (i + 1) (set lo i z)
  begun_more i lo z l e h = record {
    whole = length-set lo i z ∙ h.whole;
    done = λ k m. elim (ℕ_discrete k i) [
      | yes q ↦ rw q (get_or-set_same lo i z (pos 0) (omega (arith, h.whole)) ∙ e)
      | no q ↦ get_or-set_other lo i k z (pos 0) q ∙ h.done k (omega arith)
    ];
    rest = λ k m n. get_or-set_other lo i k z (pos 0) (λ q. omega arith) ∙ h.rest k (omega arith) n;
  }

  pub begun_all : (i : ℕ) (lo : List ℤ) → b.f4 + b.f6 ≤ i → Begun i lo → lo ≡ locals_of s b zs
  unfolding locals_of
  begun_all i lo l h = ext_get_or (pos 0) lo (list_from 16 0 (local_at s b zs)) (h.whole ∙ sym (list_length 16 0 (local_at s b zs))) (λ k m. let e : 0 + k ≡ k = omega arith in let n : k < 16 = omega (arith, h.whole) in word k n ∙ sym (rw e at (list_word 16 0 k (local_at s b zs) n)))
    where
      word : (k : ℕ) → k < 16 → get_or lo k (pos 0) ≡ local_at s b zs k
      word k n = elim (dec_lt k i) [
        | yes q ↦ h.done k q
        | no q ↦ h.rest k (omega arith) n ∙ local_none k (omega arith)
      ]
