-- Question 42: both types stand in the table, so the walk may start at them.
use Rattle.std.proofs.Common.{◌≡◌, refl, sym, subst, ◌∙◌, Bool, true, ℕ, ◌*◌, ◌≤◌, ◌<◌, arith, eq-eqb, ne_eqb, ltb-true}
use Rattle.std.proofs.Common.{length, drop}
use Rattle.calculus.specs.Subtyping.{subtype}
use Rattle.calculus.specs.Subtyping as directions
use Rattle.rules.specs.Answer.{Bytes}
use Rattle.rules.specs.Limits.{type_width, no_script}
use Rattle.rules.specs.Groups.{properties_of}
use Rattle.rules.specs.Types.{type_count, type_at}
use Rattle.rules.specs.InForce.{script_count, type_of, ok25, ok42}
use Rattle.rules.proofs.Search.{each_all}
use Rattle.rules.proofs.InForce.{usable_is}
use Rattle.types.specs.Held.{Held, Starts}
use Rattle.types.proofs.Parts.{starts_of}
use Rattle.types_table.proofs.Table.{type_held}
use Rattle.amendments.specs.declared.Entry.{Entry}
use Rattle.amendments.specs.Seen.{IsEntry, ListsTyped}

module _ (g t l : Bytes) (T : ListsTyped g t l) (i n : ℕ) (m : i < script_count l) (e : n ≡ type_of l i) where
  typed : n < type_count t
  unfolding ok25
  typed = omega (arith, e, ltb-true (type_of l i) (type_count t) (each_all 25 (script_count l) (ok25 t l) T.scripts_typed i m))

  pub part_there : type_width * n ≤ length t
  part_there = omega (arith, typed)

  module _ {s : Bytes} (is : s ≡ drop (type_width * n) t) where
    pub script_held : Held s (type_at t (type_of l i))
    script_held = subst (λ (k : ℕ). Held s (type_at t k)) e (rw is (type_held g t T.tables_pass n typed))

    pub script_starts : Starts s
    script_starts = starts_of script_held

-- none is replaced
pub replaces_no_other : (g t l a : Bytes) (e : ℕ) (x : Entry) → IsEntry a e x → x.replaced ≡ no_script → true ≡ ok42 g t l a e
unfolding ok42
replaces_no_other g t l a e x is h = rw (← is.replaced, eq-eqb x.replaced no_script h) refl

pub compared_types : (g t l a : Bytes) (e : ℕ) (x : Entry) → IsEntry a e x → (x.replaced ≡ no_script → ⊥) → (b : Bool)
    → b ≡ subtype (properties_of g) directions.below (type_at t (type_of l x.first)) (type_at t (type_of l x.replaced)) → b ≡ ok42 g t l a e
unfolding ok42
compared_types g t l a e x is h b k =
    rw (← is.replaced, ← is.first, ne_eqb x.replaced no_script h) (k ∙ sym (usable_is (properties_of g) (type_at t (type_of l x.first)) (type_at t (type_of l x.replaced))))
