-- An entry beside the sets of what was named before it.
use Rattle.std.proofs.Common.{◌≡◌, refl, sym, ap₂, ◌∙◌, Bool, true, false, not, ◌&&◌, ◌||◌, ℕ, ◌+◌, ◌<◌, arith, add-one}
use Rattle.std.proofs.Common.{nat_eq, nat_lt}
use Rattle.rules.specs.Answer.{Bytes}
use Rattle.rules.specs.Limits.{no_script}
use Rattle.rules.specs.InForce.{script_count, entry_first, entry_replaced, among, ok40, ok41}
use Rattle.amendments.specs.declared.Entry.{Entry}
use Rattle.amendments.specs.declared.Seen.{Seen}
use Rattle.amendments.specs.declared.Set.{Set}
use Rattle.amendments.specs.Marked.{number_count, is_marked, Marks}
use Rattle.rules.proofs.InForce.{ordered}
use Rattle.amendments.specs.Seen.{IsEntry, IndexesListed, Before}

-- the empty set, and one number more
marks_none : (column : ℕ → ℕ) (s : Bytes) → ((i : ℕ) → i < number_count → is_marked s i ≡ false) → Marks column 0 s
unfolding among
marks_none column s h = record { each = h }

marks_more : (column : ℕ → ℕ) (n x : ℕ) (s s' : Bytes) → x ≡ column n → ((j : ℕ) → j < number_count → is_marked s' j ≡ (nat_eq x j || is_marked s j)) → Marks column n s
    → Marks column (n + 1) s'
unfolding among
marks_more column n x s s' e h m = record {
  each = λ i l. h i l ∙ ap₂ (λ (y : ℕ) (b : Bool). nat_eq y i || b) e (m.each i l) ∙ sym (next i);
}
  where
    next : (i : ℕ) → among column (n + 1) i ≡ (nat_eq (column n) i || among column n i)
    next i = rw add-one refl

pub nothing_seen : (a : Bytes) {s s' : Set} → ((i : ℕ) → i < number_count → is_marked s.0 i ≡ false) → ((i : ℕ) → i < number_count → is_marked s'.0 i ≡ false)
    → Before a 0 (record { listed = s; replaced = s' })
nothing_seen a h k = record { listed = marks_none (entry_first a) _ h; replaced = marks_none (entry_replaced a) _ k }

pub one_seen : (a : Bytes) (e : ℕ) (x : Entry) {s s' : Seen} → IsEntry a e x → Before a e s
    → ((j : ℕ) → j < number_count → is_marked s'.listed.0 j ≡ (nat_eq x.first j || is_marked s.listed.0 j))
    → ((j : ℕ) → j < number_count → is_marked s'.replaced.0 j ≡ (nat_eq x.replaced j || is_marked s.replaced.0 j)) → Before a (e + 1) s'
one_seen a e x is b h k = record {
  listed = marks_more (entry_first a) e x.first _ _ is.first h b.listed;
  replaced = marks_more (entry_replaced a) e x.replaced _ _ is.replaced k b.replaced;
}

-- questions 40 and 41, as they are put to the sets
pub allowed : (l a : Bytes) (e count : ℕ) (x : Entry) (s : Seen) → x.first < number_count → x.replaced < number_count → count ≡ script_count l → IsEntry a e x → Before a e s
    → (nat_lt x.first count && (not (is_marked s.listed.0 x.first) && (nat_eq x.replaced no_script || nat_lt x.replaced count && is_marked s.listed.0 x.replaced))) ≡ ok40 l a e
unfolding ok40
allowed l a e count x s m m' c is b = rw (b.listed.each x.first m, b.listed.each x.replaced m', is.first, is.replaced, c) refl

pub left : (a : Bytes) (e : ℕ) (x : Entry) (s : Seen) → x.replaced < number_count → IsEntry a e x → Before a e s
    → (nat_eq x.replaced no_script || not (is_marked s.replaced.0 x.replaced)) ≡ ok41 a e
unfolding ok41
left a e x s m is b = rw (b.replaced.each x.replaced m, is.replaced) refl

-- what passes 40 has its indexes in the list
pub within_list : (l a : Bytes) (e : ℕ) (x : Entry) → IsEntry a e x → ok40 l a e ≡ true → IndexesListed (script_count l) x
within_list l a e x is h =
    let o = ordered l a e h in
    record { first = omega (arith, is.first, o.inside); replaced = λ d. omega (arith, is.replaced, (o.older (λ z. d (is.replaced ∙ z))).0) }
