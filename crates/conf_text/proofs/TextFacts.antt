-- What a text is read as, from what the parser of TOML says of it.
use Rattle.std.proofs.Common.{◌≡◌, List, ℕ, Some, None, Err, refl, ap, inl, inr}
use Rattle.std.specs.Str.{is_utf8, IsUtf8}
use Rattle.std.proofs.lemmas.Str.{IsUtf8-from_is_utf8, is_utf8-from_IsUtf8}
use Rattle.std.proofs.lemmas.Bool.{cases_Bool}
use Rattle.toml.specs.Data.{Members}
use Rattle.toml.specs.Parse.{parse_document}
use Rattle.conf_text.specs.Faults.{NotToml}
use Rattle.conf_text.specs.File.{file_of, in_document, file_in}

pub text-parsed : (text : List ℕ) (t : Members) → IsUtf8 text → parse_document text ≡ Some t → file_in text ≡ file_of t
text-parsed text t utf8 parsed = rw (is_utf8-from_IsUtf8 text utf8) (ap in_document parsed)

pub text-refused : (text : List ℕ) → (IsUtf8 text → parse_document text ≡ None) → file_in text ≡ Err NotToml
text-refused text refused =
    elim (cases_Bool (is_utf8 text)) [
      | inl utf8 ↦ rw utf8 (ap in_document (refused (IsUtf8-from_is_utf8 text utf8)))
      | inr other ↦ rw other refl
    ]
