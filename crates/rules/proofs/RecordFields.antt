-- A record's fields are those of its own bytes, so questions 9, 10, 14, 15, 16 and 19 ask of record i what they ask of
-- its bytes.
use Rattle.std.proofs.Common.{◌≡◌, List, [], ◌∷◌, ℕ, arith, get_or}
use Rattle.rules.specs.Answer.{Bytes}
use Rattle.rules.specs.Limits.{script_width, type_width}
use Rattle.rules.specs.Types.{type_kind, type_r, type_ir, type_zero, type_c, type_ic, ok10, ok36_type}
use Rattle.rules.specs.Script.{kind, r, ir, zero_byte, number, c, ic, ok14, ok15, ok36_object, ok16, ok19}
use Rattle.rules.proofs.Prefix.{record_at}
use Rattle.rules.proofs.Parts.{record_byte, record_first}
use Rattle.std.proofs.lemmas.Grind.{common_steps}

module _ (t : Bytes) (i : ℕ) where
  pub type_kind_is : type_kind (record_at type_width t i) 0 ≡ type_kind t i
  type_kind_is = record_first type_width t i (omega arith)

  pub type_r_is : type_r (record_at type_width t i) 0 ≡ type_r t i
  type_r_is = record_byte type_width t i 1 (omega arith)

  pub type_ir_is : type_ir (record_at type_width t i) 0 ≡ type_ir t i
  type_ir_is = record_byte type_width t i 2 (omega arith)

  pub type_zero_is : type_zero (record_at type_width t i) 0 ≡ type_zero t i
  type_zero_is = record_byte type_width t i 3 (omega arith)

  pub type_c_is : type_c (record_at type_width t i) 0 ≡ type_c t i
  type_c_is = record_byte type_width t i 4 (omega arith)

  pub type_ic_is : type_ic (record_at type_width t i) 0 ≡ type_ic t i
  type_ic_is = record_byte type_width t i 5 (omega arith)

  pub ok36_type_record : (g : Bytes) → ok36_type g (record_at type_width t i) 0 ≡ ok36_type g t i
  unfolding ok36_type
  ok36_type_record g = rw (type_ic_is, type_c_is)

  pub ok10_record : (g : Bytes) → ok10 g (record_at type_width t i) 0 ≡ ok10 g t i
  unfolding ok10
  ok10_record g = rw (type_ir_is, type_r_is)

module _ (s : Bytes) (i : ℕ) where
  pub kind_is : kind (record_at script_width s i) 0 ≡ kind s i
  kind_is = record_first script_width s i (omega arith)

  pub r_is : r (record_at script_width s i) 0 ≡ r s i
  r_is = record_byte script_width s i 1 (omega arith)

  pub ir_is : ir (record_at script_width s i) 0 ≡ ir s i
  ir_is = record_byte script_width s i 2 (omega arith)

  pub zero_byte_is : zero_byte (record_at script_width s i) 0 ≡ zero_byte s i
  zero_byte_is = record_byte script_width s i 3 (omega arith)

  pub number_is : number (record_at script_width s i) 0 ≡ number s i
  number_is = grind (arith, common_steps)

  pub c_is : c (record_at script_width s i) 0 ≡ c s i
  c_is = record_byte script_width s i 6 (omega arith)

  pub ic_is : ic (record_at script_width s i) 0 ≡ ic s i
  ic_is = record_byte script_width s i 7 (omega arith)

  pub ok36_object_record : (g : Bytes) → ok36_object g (record_at script_width s i) 0 ≡ ok36_object g s i
  unfolding ok36_object
  ok36_object_record g = rw (kind_is, c_is, ic_is)

  pub ok14_record : ok14 (record_at script_width s i) 0 ≡ ok14 s i
  unfolding ok14
  ok14_record = rw (kind_is, r_is, ir_is, zero_byte_is, number_is, c_is, ic_is)

  pub ok15_record : (g : Bytes) → ok15 g (record_at script_width s i) 0 ≡ ok15 g s i
  unfolding ok15
  ok15_record g = rw (kind_is, r_is, ir_is, c_is, ic_is)

  pub ok16_record : (t : Bytes) → ok16 t (record_at script_width s i) 0 ≡ ok16 t s i
  unfolding ok16
  ok16_record t = rw (kind_is, number_is)

  pub ok19_record : (bs : List ℕ) → ok19 (get_or bs i 0 ∷ []) (record_at script_width s i) 0 ≡ ok19 bs s i
  unfolding ok19
  ok19_record bs = rw (kind_is, number_is)
