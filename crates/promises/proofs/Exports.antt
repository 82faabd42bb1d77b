-- Export: its questions, and that importing an export gives back the script.
use Rattle.std.proofs.Common.{◌≡◌, refl, sym, ap, subst, ◌∙◌, [], ◌∷◌, ◌++◌, ℕ, ◌+◌, ◌/◌, ◌%◌, ◌≤◌, ◌<◌, arith}
use Rattle.std.proofs.Common.{leb-true, le-leb, eq-eqb, nat_le, length}
use Rattle.calculus.specs.Terms.{Term}
use Rattle.rules.specs.Answer.{Bytes, Octets, Answer, accepted}
use Rattle.rules.specs.Limits.{office_width, office_limit}
use Rattle.rules.specs.Script.{records, encode, size, term, c, ic, q13, q15, q36_objects, q16, q18, q19}
use Rattle.rules.specs.Calls.{types_check, form_check, own_check, script_check, q27}
use Rattle.rules.specs.Rewriting.{rewritten_after}
use Rattle.rules.specs.Names.{level_names, meant}
use Rattle.rules.specs.Office.{office_records, nameless, with_names, named_term, q28, q30, import_of, import_call}
use Rattle.rules.specs.Office.{office, export_of, q28_of_export, export_call}
use Rattle.rules.proofs.Asked.{ask_true, and_then}
use Rattle.rules.proofs.PrefixLaws.{alone, size_positive}
use Rattle.rules.proofs.Nodes.{Every, to_nodes}
use Rattle.rules.proofs.TermCode.{term_shape, term_code}
use Rattle.rules.proofs.RecordFields.{c_is, ic_is}
use Rattle.rules.proofs.NodeQuestions.{q14_encode}
use Rattle.rules.proofs.Depth.{q18_depth, q18_encode}
use Rattle.rules.proofs.Scope.{Scoped, q19_scoped}
use Rattle.rules.proofs.Scripts.{Whole, whole, encode_whole, term_encode, records_encode, q17_encode}
use Rattle.rules.proofs.Names.{blank, blank_depth, meant_naming}
use Rattle.rules.proofs.Office.{scoped_q30}
use Rattle.rules.proofs.Exports.{Plain, office_length, export_records, export_nameless, export_names, export_stands}
use Rattle.rules.proofs.Exports.{export_q29}
use Rattle.promises.specs.Questions.{question, of_groups, of_types, of_script}
use Rattle.promises.specs.Office.{Uncreated, Exports}
use Rattle.rules.proofs.Form.{form_yes, yes_form}
use Rattle.promises.proofs.Answers.{accepted_inj, go_on, asks}
use Rattle.promises.proofs.Deciding.{Decided, decides, ask_own, decided_one, decided_then, decided_yes}
use Rattle.promises.proofs.EveryCallAnswers.{script_decided}
use Rattle.promises.proofs.Imports.{Kept, every_blank, q15_kept, q36_kept, q16_kept}

-- What export asked, where it accepts, of the term that the script encodes.
pub record Exported (g t : Bytes) (e : Term) : Type 0 where
  pub types : types_check g t ≡ accepted tt
  pub groups : q15 g (encode e) ≡ accepted tt
  pub creators : q36_objects g (encode e) ≡ accepted tt
  pub named : q16 t (encode e) ≡ accepted tt
  pub shallow : q18 (encode e) ≡ accepted tt
  pub scoped : Scoped 0 e
  pub limited : size e ≤ office_limit

module _ (g t : Bytes) (e : Term) (x : Exported g t e) (plain : Every term_shape Plain e) where
  -- what was written
  abbrev o : Bytes
  o = office (level_names 0 e)

  present : nameless o ≡ encode (blank e)
  present = export_nameless e plain

  o_whole : Whole (nameless o)
  o_whole = subst Whole (sym present) (encode_whole (blank e))

  o_term : term (nameless o) ≡ blank e
  o_term = ap term present ∙ term_encode (blank e)

  names : named_term o ≡ level_names 0 e
  unfolding named_term
  names = ap (with_names o 0) o_term ∙ export_names o 0 e 0 (export_stands e)

  given : meant [] (named_term o) ≡ e
  given = ap (meant []) names ∙ meant_naming 0 e x.scoped

  o_28 : q28 o ≡ accepted tt
  o_28 =
      let l = office_length 0 e in
      let n = export_records e in
      rw (
        eq-eqb (length o % office_width) 0 (omega (arith, l)),
        le-leb 1 (office_records o) (omega (arith, n, size_positive term_code e)),
        le-leb (office_records o) office_limit (omega (arith, n, x.limited)),
      )
      refl

  o_form : form_check g t (nameless o) ≡ accepted tt
  o_form =
      let kept : Kept g t e (blank e) = λ Q any h. every_blank Q any e h in
      rw present
      (yes_form g t (encode (blank e))
      (record {
        fields = q14_encode (blank e);
        groups = q15_kept g t e (blank e) kept x.groups;
        creators = q36_kept g t e (blank e) kept x.creators;
        types = q16_kept g t e (blank e) kept x.named;
        one_term = q17_encode (blank e);
        shallow = q18_encode (blank e) (omega (arith, blank_depth e, q18_depth e x.shallow));
      }))

  o_30 : q30 o ≡ accepted tt
  o_30 = scoped_q30 o o_whole (subst (Scoped 0) (sym given) x.scoped)

  back : (room : ℕ) → length (encode e) ≤ room → import_call g t o room ≡ accepted (encode e)
  unfolding import_call import_of
  back room l =
      let p : encode (meant [] (named_term o)) ≡ encode e = ap encode given in
      go_on x.types
      (go_on o_28
      (go_on o_form
      (go_on (export_q29 e) (go_on o_30 (go_on (asks 27 0 _ (le-leb _ room (subst (λ (b : Bytes). length b ≤ room) (sym p) l))) (ap accepted p))))))

module _ (g t s : Bytes) where
  export_decided : (room : ℕ)
      → Decided (of_groups g ++ of_types g t ++ of_script [] g t s ++ (question 28 (q28_of_export s) ∷ question 27 (q27 (export_of s) room) ∷ []))
      (export_call g t s room)
  unfolding export_call
  export_decided room =
      decided_then (script_check [] g t s) _ (script_decided [] g t s)
      (decided_then (q28_of_export s) _ (decided_one (ask_own 28 0 (nat_le (records s) office_limit)))
      (decided_then (q27 (export_of s) room) _ (decided_one (ask_own 27 0 (nat_le (length (export_of s)) room))) (decided_yes (export_of s))))

  module _ (octets : Octets s) (room : ℕ) (b : Bytes) (q : export_call g t s room ≡ accepted b) where
    abbrev e : Term
    e = term s

    record Answered : Type 0 where
      encoded : encode e ≡ s
      is : office (level_names 0 e) ≡ b
      asked : Exported g t e

    answered : Answered
    unfolding export_call own_check script_check export_of
    answered =
        let a = and_then (script_check [] g t s) _ q in
        let q28 = and_then (q28_of_export s) _ a.1 in
        let q27 = and_then (q27 (export_of s) room) _ q28.1 in
        let types = and_then (types_check g t) _ a.0 in
        let q13 = and_then (q13 [] s) _ types.1 in
        let q18 = and_then (form_check g t s) (q19 s) q13.1 in
        let f = form_yes g t s q18.0 in
        let w = whole [] s octets q13.0 f.fields f.one_term in
        record {
          encoded = w.encoded;
          is = accepted_inj q27.1;
          asked = record {
            types = types.0;
            groups = rw w.encoded f.groups;
            creators = rw w.encoded f.creators;
            named = rw w.encoded f.types;
            shallow = rw w.encoded f.shallow;
            scoped = q19_scoped e (rw w.encoded q18.1);
            limited = omega (arith, w.sized, leb-true (records s) office_limit (ask_true 28 0 _ q28.0));
          };
        }

    export_counted : length b / office_width ≡ records s
    export_counted =
        let x = answered in
        let n : length (office (level_names 0 e)) / office_width ≡ records (encode e) = omega (arith, office_length 0 e, records_encode e) in
        ap (λ (y : Bytes). length y / office_width) (sym x.is) ∙ n ∙ ap records x.encoded

    export_given_back : Uncreated s → (room' : ℕ) → length s ≤ room' → import_call g t b room' ≡ accepted s
    export_given_back plain room' l =
        let x = answered in
        let every : Every term_shape Plain e =
        to_nodes term_code (λ h. (c h 0 ≡ 0) × (ic h 0 ≡ 0)) (encode e) 0 e [] (alone term_code e)
        (λ j m.
        let p : 0 + j < records s = omega (arith, m, records_encode e, ap records x.encoded) in
        let y = plain (0 + j) p in
        (c_is (encode e) (0 + j) ∙ ap (λ (z : Bytes). c z (0 + j)) x.encoded ∙ y.0, ic_is (encode e) (0 + j) ∙ ap (λ (z : Bytes). ic z (0 + j)) x.encoded ∙ y.1)) in
        ap (λ (y : Bytes). import_call g t y room') (sym x.is)
        ∙ back g t e x.asked every room' (subst (λ (y : Bytes). length y ≤ room') (sym x.encoded) l)
        ∙ ap accepted x.encoded

pub exports : (g t s : Bytes) → Octets s → Exports g t s
exports g t s octets = record {
  decides = λ room. decides (export_decided g t s room);
  keeps = λ room q place e old. ap (λ (x : Answer Bytes). rewritten_after x old) e;
  counted = export_counted g t s octets;
  given_back = λ plain room b q. export_given_back g t s octets room b q plain;
}
