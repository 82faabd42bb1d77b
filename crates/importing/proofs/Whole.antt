-- A whole old script: what the walk over it is given, and what it gives.
use Rattle.std.proofs.Common.{◌≡◌, refl, sym, ap, ap₂, ◌∙◌, List, [], ◌++◌, append-nil, ℕ, ◌+◌, ◌*◌, ◌≤◌, ◌<◌, arith}
use Rattle.std.proofs.Common.{length, drop, subst as transport, get_or}
use Rattle.std.specs.Borrow.{MutBor}
use Rattle.calculus.specs.Terms.{Term}
use Rattle.rules.specs.Answer.{Bytes, Answer, accepted, each}
use Rattle.rules.specs.Limits.{script_width, depth_limit}
use Rattle.rules.specs.Script.{encode, term, size, depth, kind, records}
use Rattle.rules.specs.Names.{meant, scopes}
use Rattle.rules.specs.Office.{office_records, office_kind, nameless, with_names, named_term, ok30, q30, import_of}
use Rattle.rules.proofs.Scripts.{records_encode}
use Rattle.rules.proofs.Office.{nameless_records, nameless_kind, scopes_length}
use Rattle.rules.proofs.PrefixLaws.{encode_length}
use Rattle.rules.proofs.TermCode.{term_code}
use Rattle.memory.specs.Splice.{splice}
use Rattle.memory.specs.Written.{Written}
use Rattle.memory.specs.declared.Writer.{Writer}
use Rattle.records.proofs.Stands.{at_start}
use Rattle.scope.specs.Walk.{scan_records}
use Rattle.scope.proofs.Scans.{finish, scan_each}
use Rattle.importing.specs.Fields.{is_bound}
use Rattle.importing.specs.Scope.{scope, Importable, Resolved}

-- no names are over a script
no_names : (names : List ℕ) → scope names 0 ≡ []
unfolding scope
no_names names = refl

module _ (s o : Bytes) (is : s ≡ nameless o) (encoded : encode (term s) ≡ s) where
  count : size (term s) ≡ office_records o
  count = omega (arith, records_encode (term s), ap records encoded, ap records is, nameless_records o)

  pub kinds_same : (j : ℕ) → j < office_records o → office_kind o j ≡ kind s j
  kinds_same j l = sym (nameless_kind o j l) ∙ ap (λ (b : Bytes). kind b j) (sym is)

  pub ready : (names : List ℕ) (out : Writer) (new : Bytes) {lent : MutBor Bytes} → depth (term s) ≤ depth_limit → length names ≡ depth_limit → length s ≤ length new
      → (out.end ≡ 0) × (out.out ≡ lent) → lent.now ≡ new → Importable s o 0 0 names out
  ready names out new {lent} d l m e n = record {
    tree = term s;
    at = at_start s encoded;
    shallow = omega (arith, d);
    levels = l;
    old = omega (arith, ap records is, nameless_records o);
    room = omega (arith, e.0, ap (λ (x : MutBor Bytes). length x.now) e.1, ap length n, m, ap length encoded, encode_length term_code (term s));
  }

  module _ (names names' : List ℕ) (out out' : Writer) {a : Answer ℕ} (r : Resolved o 0 0 (term s) names out a names' out') where
    abbrev lists : List (List ℕ)
    lists = scopes (scope names 0) (with_names o 0 (term s))

    -- question 30 of every record
    pub asked_is : finish a ≡ q30 o
    unfolding ok30 named_term
    asked_is =
        scan_each 30 (is_bound o) [] a lists (office_records o) r.asked (omega (arith, count, scopes_length o 0 (scope names 0) (term s)))
        ∙ ap₂ (λ (ns : List ℕ) (b : Bytes). each 30 (office_records o) (λ k. is_bound o k (get_or (scopes ns (with_names o 0 (term b))) k []))) (no_names names) is

    -- and what is written
    pub written_is : (next : ℕ) → a ≡ accepted next → Written (import_of o) out out'
    unfolding import_of named_term
    written_is next e =
        transport (λ (b : Bytes). Written b out out')
        (ap₂ (λ (ns : List ℕ) (b : Bytes). encode (meant ns (with_names o 0 (term b)))) (no_names names) is)
        (r.written next e)
