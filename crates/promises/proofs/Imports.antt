-- Import: its questions, what is imported, and that it passes questions 2 to 19.
use Rattle.std.proofs.Common.{◌≡◌, refl, sym, ap, subst, ◌∙◌, true, ◌&&◌, [], ◌∷◌, ◌++◌, ◌↔◌, ℕ, ◌/◌, ◌%◌, ◌≤◌, arith}
use Rattle.std.proofs.Common.{nat_eq, nat_le, length}
use Rattle.calculus.specs.Terms.{plus, Term, var, reckon}
use Rattle.rules.specs.Answer.{Bytes, Octets, Answer, accepted}
use Rattle.rules.specs.Limits.{script_width, office_width, office_limit}
use Rattle.rules.specs.Script.{script_record, encode, size, depth, term, ok15, ok36_object, ok16, q14, q15, q36_objects}
use Rattle.rules.specs.Script.{q16, q17, q18}
use Rattle.rules.specs.Calls.{types_check, form_check, own_check, script_check, q27}
use Rattle.rules.specs.Rewriting.{rewritten_after}
use Rattle.rules.specs.Names.{Means, meant, scopes}
use Rattle.rules.specs.Office.{office_records, nameless, named_term, with_names, ok29, ok30, q28, q29, q30, import_of}
use Rattle.rules.specs.Office.{import_call}
use Rattle.rules.proofs.Asked.{and_then}
use Rattle.rules.proofs.ScriptLength.{q13_encode}
use Rattle.rules.proofs.PrefixLaws.{encode_length}
use Rattle.rules.proofs.Nodes.{Every}
use Rattle.rules.proofs.TermCode.{term_shape, term_code, term_head}
use Rattle.rules.proofs.RecordFields.{ok15_record, ok36_object_record, ok16_record}
use Rattle.rules.proofs.NodeQuestions.{asked_of_nodes, asked_of_records, q14_encode}
use Rattle.rules.proofs.Depth.{q18_depth, q18_encode}
use Rattle.rules.proofs.Scope.{q19_encode}
use Rattle.rules.proofs.Scripts.{Whole, whole, encode_injective, q17_encode}
use Rattle.rules.proofs.Form.{form_yes, yes_form}
use Rattle.rules.proofs.Names.{means_meant, meant_means, blank, blank_size, blank_depth, blank_meant, to_blank}
use Rattle.rules.proofs.Names.{from_blank}
use Rattle.rules.proofs.Office.{q28_measured, nameless_13, nameless_records, nameless_octets, q30_scoped, scoped_q30}
use Rattle.promises.specs.Questions.{question, of_groups, of_types, of_office}
use Rattle.promises.specs.Office.{Imports}
use Rattle.promises.proofs.Answers.{accepted_inj, go_on}
use Rattle.promises.proofs.Deciding.{Decided, decides, ask_own, each_own, decided_one, decided_then, decided_yes}
use Rattle.promises.proofs.EveryCallAnswers.{types_decided, form_decided}

-- What is asked of a record and doesn't look at a variable's number.
module _ (Q : Bytes → Type 0) (any : (n : ℕ) → Q (script_record 0 0 0 n)) where
  head_blank : (e : Term) → Q (term_head e) → Q (term_head (blank e))
  unfolding blank
  head_blank (var n) h = any 0
  head_blank (reckon plus w a b) h = h
  head_blank _ h = h

  blank_head : (e : Term) → Q (term_head (blank e)) → Q (term_head e)
  unfolding blank
  blank_head (var n) h = any n
  blank_head (reckon plus w a b) h = h
  blank_head _ h = h

  pub every_blank : (e : Term) → Every term_shape (λ x. Q (term_head x)) e → Every term_shape (λ x. Q (term_head x)) (blank e)
  every_blank e h = to_blank (λ x. Q (term_head x)) head_blank e h

  -- so what holds of the records of an old term holds of what it means
  pub every_meant : (s : Bytes) (e : Term) → Every term_shape (λ x. Q (term_head x)) e
      → Every term_shape (λ x. Q (term_head x)) (meant [] (with_names s 0 e))
  every_meant s e h =
      from_blank (λ x. Q (term_head x)) blank_head (meant [] (with_names s 0 e))
      (subst (Every term_shape (λ x. Q (term_head x))) (sym (blank_meant s 0 [] e)) (every_blank e h))

-- Questions 15, 36 and 16 don't.
module _ (g t : Bytes) where
  any_15 : (n : ℕ) → ok15 g (script_record 0 0 0 n) 0 ≡ true
  unfolding ok15
  any_15 n = refl

  any_36 : (n : ℕ) → ok36_object g (script_record 0 0 0 n) 0 ≡ true
  unfolding ok36_object
  any_36 n = refl

  any_16 : (n : ℕ) → ok16 t (script_record 0 0 0 n) 0 ≡ true
  unfolding ok16
  any_16 n = refl

  -- a term with other variables' numbers
  abbrev pub Kept : Term → Term → Type 1
  Kept e e' = (Q : Bytes → Type 0) → ((n : ℕ) → Q (script_record 0 0 0 n)) → Every term_shape (λ x. Q (term_head x)) e → Every term_shape (λ x. Q (term_head x)) e'

  module _ (e e' : Term) (kept : Kept e e') where
    pub q15_kept : q15 g (encode e) ≡ accepted tt → q15 g (encode e') ≡ accepted tt
    q15_kept q =
        let own = λ (s : Bytes) (i : ℕ). ok15_record s i g in
        asked_of_records 15 (ok15 g) own e' (kept (λ h. ok15 g h 0 ≡ true) any_15 (asked_of_nodes 15 (ok15 g) own e q))

    pub q36_kept : q36_objects g (encode e) ≡ accepted tt → q36_objects g (encode e') ≡ accepted tt
    q36_kept q =
        let own = λ (s : Bytes) (i : ℕ). ok36_object_record s i g in
        asked_of_records 36 (ok36_object g) own e' (kept (λ h. ok36_object g h 0 ≡ true) any_36 (asked_of_nodes 36 (ok36_object g) own e q))

    pub q16_kept : q16 t (encode e) ≡ accepted tt → q16 t (encode e') ≡ accepted tt
    q16_kept q =
        let own = λ (s : Bytes) (i : ℕ). ok16_record s i t in
        asked_of_records 16 (ok16 t) own e' (kept (λ h. ok16 t h 0 ≡ true) any_16 (asked_of_nodes 16 (ok16 t) own e q))

-- An old script whose form is right is a term without names.
pub seen_whole : (s : Bytes) → Octets s → q28 s ≡ accepted tt → q14 (nameless s) ≡ accepted tt → q17 (nameless s) ≡ accepted tt → Whole (nameless s)
seen_whole s o q28_yes q14_yes q17_yes = whole [] (nameless s) (nameless_octets s o) (nameless_13 s q28_yes) q14_yes q17_yes

pub office_whole : (g t s : Bytes) → Octets s → q28 s ≡ accepted tt → form_check g t (nameless s) ≡ accepted tt → Whole (nameless s)
office_whole g t s o q28_yes form =
    let f = form_yes g t (nameless s) form in
    seen_whole s o q28_yes f.fields f.one_term

-- What import asked, where it accepts.
pub record Imported (g t s : Bytes) (room : ℕ) (b : Bytes) : Type 0 where
  pub types : types_check g t ≡ accepted tt
  pub length_yes : q28 s ≡ accepted tt
  pub form : form_check g t (nameless s) ≡ accepted tt
  pub unused : q29 s ≡ accepted tt
  pub bound : q30 s ≡ accepted tt
  pub is : import_of s ≡ b

pub import_yes : (g t s : Bytes) (room : ℕ) (b : Bytes) → import_call g t s room ≡ accepted b → Imported g t s room b
unfolding import_call
import_yes g t s room b q =
    let a = and_then (types_check g t) _ q in
    let d = and_then (q28 s) _ a.1 in
    let e = and_then (form_check g t (nameless s)) _ d.1 in
    let f = and_then (q29 s) _ e.1 in
    let h = and_then (q30 s) _ f.1 in
    let i = and_then (q27 (import_of s) room) _ h.1 in
    record { types = a.0; length_yes = d.0; form = e.0; unused = f.0; bound = h.0; is = accepted_inj i.1 }

module _ (g t s : Bytes) where
  -- the term of an old script and what it means
  abbrev old : Term
  old = term (nameless s)

  abbrev new : Term
  new = meant [] (with_names s 0 old)

  import_decided : (room : ℕ) → Decided (of_groups g ++ of_types g t ++ of_office g t s ++ (question 27 (q27 (import_of s) room) ∷ [])) (import_call g t s room)
  unfolding import_call
  import_decided room =
      decided_then (types_check g t) _ (types_decided g t)
      (decided_then (q28 s) _ (decided_one (ask_own 28 0 (nat_eq (length s % office_width) 0 && (nat_le 1 (office_records s) && nat_le (office_records s) office_limit))))
      (decided_then (form_check g t (nameless s)) _ (form_decided g t (nameless s))
      (decided_then (q29 s) _ (decided_one (each_own 29 (office_records s) (ok29 s)))
      (decided_then (q30 s) _ (decided_one (each_own 30 (office_records s) (ok30 (scopes [] (named_term s)) s)))
      (decided_then (q27 (import_of s) room) _ (decided_one (ask_own 27 0 (nat_le (length (import_of s)) room))) (decided_yes (import_of s)))))))

  imported_is : import_of s ≡ encode new
  unfolding import_of named_term
  imported_is = refl

  new_size : size new ≡ size old
  new_size = sym (blank_size new) ∙ ap size (blank_meant s 0 [] old) ∙ blank_size old

  pub new_depth : depth new ≡ depth old
  new_depth = sym (blank_depth new) ∙ ap depth (blank_meant s 0 [] old) ∙ blank_depth old

  module _ (octets : Octets s) where
    import_means : q28 s ≡ accepted tt → form_check g t (nameless s) ≡ accepted tt → (e : Term)
        → Means [] (named_term s) e ↔ ((q30 s ≡ accepted tt) × (import_of s ≡ encode e))
    unfolding named_term
    import_means q form e = grind (arith, means_meant, scoped_q30, imported_is, encode_injective, meant_means, q30_scoped, office_whole)

    module _ (room : ℕ) (b : Bytes) (q : import_call g t s room ≡ accepted b) where
      yes : Imported g t s room b
      yes = import_yes g t s room b q

      old_whole : Whole (nameless s)
      old_whole = office_whole g t s octets yes.length_yes yes.form

      small : size new ≤ office_limit
      small = omega (arith, new_size, old_whole.sized, nameless_records s, (q28_measured s yes.length_yes).limited)

      import_counted : length b / script_width ≡ office_records s
      import_counted =
          let n : length (encode new) / script_width ≡ office_records s = omega (arith, encode_length term_code new, new_size, old_whole.sized, nameless_records s) in
          ap (λ (x : Bytes). length x / script_width) (sym (sym imported_is ∙ yes.is)) ∙ n

      import_checked : script_check [] g t b ≡ accepted tt
      unfolding own_check script_check named_term
      import_checked =
          let f = form_yes g t (nameless s) yes.form in
          let kept : Kept g t old new = λ Q any h. every_meant Q any s old h in
          let e = old_whole.encoded in
          let form = yes_form g t (encode new) (record {
            fields = q14_encode new;
            groups = q15_kept g t old new kept (ap (q15 g) e ∙ f.groups);
            creators = q36_kept g t old new kept (ap (q36_objects g) e ∙ f.creators);
            types = q16_kept g t old new kept (ap (q16 t) e ∙ f.types);
            one_term = q17_encode new;
            shallow = q18_encode new (omega (arith, new_depth, q18_depth old (ap q18 e ∙ f.shallow)));
          }) in
          subst (λ (x : Bytes). script_check [] g t x ≡ accepted tt) (sym imported_is ∙ yes.is)
          (go_on yes.types
          (go_on (q13_encode [] new (omega (arith, small)) (λ i l. absurd (omega arith)))
          (go_on form (q19_encode new (q30_scoped s old_whole yes.bound)))))

pub imports : (g t s : Bytes) → Octets s → Imports g t s
imports g t s octets = record {
  decides = λ room. decides (import_decided g t s room);
  keeps = λ room q place e old. ap (λ (x : Answer Bytes). rewritten_after x old) e;
  means = import_means g t s octets;
  counted = import_counted g t s octets;
  checked = import_checked g t s octets;
}
