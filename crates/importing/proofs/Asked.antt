-- The questions of an import, one after another, and what then stands in front of the two copies.
use Rattle.std.proofs.Common.{◌≡◌, refl, sym, ap, ◌∙◌, [], ℕ, ◌*◌, ◌≤◌, arith, length, take, drop, take_at}
use Rattle.rules.specs.Answer.{Bytes, Octets, Answer, accepted, refused, ◌>>◌}
use Rattle.rules.specs.Limits.{script_width, depth_limit, office_limit}
use Rattle.rules.specs.Script.{encode, term, depth, q18}
use Rattle.rules.specs.Calls.{types_check, form_check}
use Rattle.rules.specs.Names.{meant}
use Rattle.rules.specs.Office.{office_records, nameless, with_names, named_term, q28, q29, q30, import_of, import_call}
use Rattle.rules.proofs.Asked.{and_then}
use Rattle.rules.proofs.PrefixLaws.{encode_length}
use Rattle.rules.proofs.TermCode.{term_code}
use Rattle.rules.proofs.Depth.{q18_depth}
use Rattle.rules.proofs.Scripts.{Whole}
use Rattle.rules.proofs.Form.{form_yes, form_whole}
use Rattle.rules.proofs.Office.{q28_measured, nameless_13, nameless_length, nameless_records, nameless_octets}
use Rattle.memory.specs.Splice.{splice}
use Rattle.memory.proofs.Laws.{splice_front}
use Rattle.rewriting.specs.Widened.{after_27}
use Rattle.importing.specs.Check.{office_check}
use Rattle.importing.proofs.Turns.{meant_size}

pub importing_is : (g t s : Bytes) (room : ℕ) → ◌>>◌ (office_check g t s) (◌>>◌ (q30 s) (after_27 (import_of s) room)) ≡ import_call g t s room
unfolding office_check import_call
importing_is g t s room = go (types_check g t) (q28 s) (form_check g t (nameless s)) (q29 s)
  where
    later : Answer Bytes
    later = ◌>>◌ (q30 s) (after_27 (import_of s) room)

    go : (a b c d : Answer (Unit {0})) → ◌>>◌ (◌>>◌ a (◌>>◌ b (◌>>◌ c d))) later ≡ ◌>>◌ a (◌>>◌ b (◌>>◌ c (◌>>◌ d later)))
    go (refused q p) b c d = refl
    go (accepted u) (refused q p) c d = refl
    go (accepted u) (accepted v) (refused q p) d = refl
    go (accepted u) (accepted v) (accepted w) d = refl

-- what was written in front
front : (b w w' : Bytes) (n : ℕ) → n ≡ length b → w' ≡ splice 0 b w → take n w' ≡ b
front b w w' n l e = ap (take n) (e ∙ splice_front b w) ∙ take_at b (drop (length b) w) n (sym l)

pub nameless_front : (s w : Bytes) {w' : Bytes} → w' ≡ splice 0 (nameless s) w → take (script_width * office_records s) w' ≡ nameless s
nameless_front s w e = front (nameless s) w _ (script_width * office_records s) (sym (nameless_length s)) e

-- An old script that was asked all that comes before its names.
module _ (g t s : Bytes) (yes : accepted tt ≡ office_check g t s) where
  length_yes : q28 s ≡ accepted tt
  unfolding office_check
  length_yes = (and_then (q28 s) _ (and_then (types_check g t) _ (sym yes)).1).0

  form_is : form_check g t (nameless s) ≡ accepted tt
  unfolding office_check
  form_is = (and_then (form_check g t (nameless s)) (q29 s) (and_then (q28 s) _ (and_then (types_check g t) _ (sym yes)).1).1).0

  pub few_records : office_records s ≤ office_limit
  few_records = (q28_measured s length_yes).limited

  module _ (octets : Octets s) where
    whole : Whole (nameless s)
    whole = form_whole g t (nameless s) (nameless_octets s octets) (nameless_13 s length_yes) form_is

    pub encoded : encode (term (nameless s)) ≡ nameless s
    encoded = whole.encoded

    pub shallow : depth (term (nameless s)) ≤ depth_limit
    shallow = q18_depth (term (nameless s)) (ap q18 whole.encoded ∙ (form_yes g t (nameless s) form_is).shallow)

    imported_length : length (import_of s) ≡ script_width * office_records s
    unfolding import_of named_term
    imported_length =
        omega (
          arith,
          encode_length term_code (meant [] (with_names s 0 (term (nameless s)))),
          meant_size s 0 [] (term (nameless s)),
          whole.sized,
          nameless_records s,
        )

    pub imported_front : (w : Bytes) {w' : Bytes} → w' ≡ splice 0 (import_of s) w → take (script_width * office_records s) w' ≡ import_of s
    imported_front w e = front (import_of s) w _ (script_width * office_records s) (sym imported_length) e
