use Rattle.std.proofs.Common.{◌≡◌, ◌∙◌, [], ◌++◌, ℕ, ◌+◌, ◌<◌, arith}
use Rattle.calculus.specs.Security.{Property}
use Rattle.calculus.specs.Types.{top}
use Rattle.calculus.specs.Terms.{Term, mu}
use Rattle.calculus.specs.Reduction.{unrolled_function}
use Rattle.rules.specs.Answer.{Bytes}
use Rattle.rules.specs.Groups.{properties_of}
use Rattle.rules.specs.Types.{type_count, type_at}
use Rattle.rules.specs.Script.{r, number, object_record, encode}
use Rattle.records.specs.Kinds as kinds
use Rattle.records.specs.Place.{At}
use Rattle.records.proofs.Stands.{there, here, at_first}
use Rattle.types.specs.Held.{type_property}
use Rattle.redex.specs.Fates.{only_reader}
use Rattle.redex.proofs.Places.{reader_at}
use Rattle.redex.proofs.Answers.{function_inside}
use Rattle.memory.specs.declared.Writer.{Writer}
use Rattle.contraction.specs.Plans.{UnrolledRoom}
use Rattle.contraction.proofs.Plans.{rolled_bytes, type_groups, recursion_number}
use Rattle.contraction.proofs.write_unrolled.Goals as goal

module _ {t s : Bytes} {at : ℕ} {out : Writer} (q : UnrolledRoom t s at out) where
  body_at : At s (at + 1) q.body
  body_at = at_first _ _ _ q.stands (omega arith)

  -- the number that the recursion's record names
  named : {n : ℕ} → n ≡ number s at → n ≡ q.type
  named e = e ∙ recursion_number q.stands

  in_table : q.type < type_count t
  in_table = function_inside _ _ q.function

  -- what is put in for the recursion's variable, and its bytes: two records, the recursion, a variable
  abbrev value : Term
  value = unrolled_function (properties_of q.groups) q.label q.type (top (type_at t q.type)) q.body

  pieces : {n i caller : ℕ} {p reads none : Property} {lambda application variable front recursion : Bytes}
      → n ≡ number s at → i ≡ n → caller ≡ r s at → p ≡ type_property t i → reads ≡ only_reader caller → none ≡ only_reader 0
      → lambda ≡ object_record kinds.function p (n + 1) → application ≡ object_record kinds.application reads 0
      → variable ≡ object_record kinds.variable none 0 → front ≡ lambda ++ (application ++ []) → recursion ≡ encode (mu q.label q.type q.body)
      → front ++ (recursion ++ variable) ≡ encode value
  pieces {i = i} e y c k x z l a v f m =
      rw (f, m, l, a, v, x, z, k ∙ type_groups t q.type i q.function (y ∙ named e), c ∙ reader_at q.stands, named e)
      (rolled_bytes q.groups q.label q.type (top (type_at t q.type)) q.body)

pub number-named-requires : goal.number-named-requires
number-named-requires c = there _ _ _ c.requires.stands

pub reader-caller-requires : goal.reader-caller-requires
reader-caller-requires c = there _ _ _ c.requires.stands

pub property_at-function-requires : goal.property_at-function-requires
property_at-function-requires c =
    omega (arith, c.from.ensures, named c.requires c.number-named.ensures, in_table c.requires)

pub overflow_add-named : goal.overflow_add-named
overflow_add-named c = omega (arith, named c.requires c.number-named.ensures, in_table c.requires, c.requires.table)

pub term_bytes-recursion-requires : goal.term_bytes-recursion-requires
term_bytes-recursion-requires c = here c.requires.stands

pub overflow_add-at : goal.overflow_add-at
overflow_add-at c = omega (arith, there _ _ _ (body_at c.requires))

pub write-requires : goal.write-requires
write-requires c =
    let q = c.requires in
    record {
      tree = q.body;
      at = body_at q;
      value = value q;
      pieces = pieces q c.number-named.ensures c.from.ensures c.reader-caller.ensures c.property_at-function.ensures c.only_reader.ensures
          c.only_reader-2.ensures c.record.ensures c.record-2.ensures c.record-back.ensures c.as_flattened.ensures.value
          (c.term_bytes-recursion.ensures _ q.stands);
      shallow = omega (arith, q.shallow);
      room = q.room;
    }

pub returns : goal.returns
returns c q =
    let bytes = pieces q c.number-named.ensures c.from.ensures c.reader-caller.ensures c.property_at-function.ensures c.only_reader.ensures
    c.only_reader-2.ensures c.record.ensures c.record-2.ensures c.record-back.ensures c.as_flattened.ensures.value (c.term_bytes-recursion.ensures _ q.stands) in
    (c.write.ensures q.body (value q) (body_at q) bytes).wrote
