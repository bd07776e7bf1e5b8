-- Laws of the reading of members: attributes one by one, a member placed in the tables, and what is kept. Assumes nothing.
use mathlib.Core.Path.{◌≡◌, refl, sym, ap}
use mathlib.Core.Bool.{Bool, true, false, ◌&&◌}
use mathlib.Core.List.{List, [], ◌∷◌}
use Prim.Native.Nat.{ℕ, suc, ◌+◌, ◌-◌, ◌*◌, ◌≤◌, ◌<◌, max, min}
use native.Mathlib.Omega.{arith}
use lib.ListN.{length, set, take, drop}
use Rattle.std.proofs.lemmas.List.{take_more_set}
use Rattle.ir_records.specs.Record.{type_words, member_words}
use Rattle.ir_rows.specs.Rows.{with_part}
use Rattle.proc_alignment.specs.Alignment.{round_up, most}
use Rattle.program_words.specs.declared.Span.{Span}
use Rattle.wgsl_tokens.specs.Tokens.{Token, from}
use Rattle.std.specs.Prelude.{Result, Ok, Err, MatchResult, IsErrAnd}
use Rattle.ir_records.specs.Result.{pick}
use Rattle.ir_records.specs.Refusal.{number_of}
use Rattle.wgsl_grammar.specs.Grammar.{refused, read, and_then, demand, expect}
use Rattle.wgsl_grammar.specs.declared.Refusal.{Refusal}
use Rattle.wgsl_types.specs.Types.{Closing}
use Rattle.wgsl_types.specs.Serving.{TypeRead}
use Rattle.wgsl_types.specs.declared.Closed.{Closed}
use Rattle.wgsl_types.specs.declared.Unclosed.{Unclosed}
use Rattle.wgsl_types.specs.declared.Unclosed.TheVariants.{Refused, Full}
use Rattle.wgsl_placement.specs.declared.Shape.{Shape}
use Rattle.wgsl_tables.specs.Tables.{records_in, name_in}
use Rattle.wgsl_tables.proofs.TableLaws.{one_name, one_record}
use Rattle.wgsl_members.specs.Members.{attribute_of, after_at, attributes_of, align_of_member, size_of_member, Members, Rooms, with_member, placed}
use Rattle.wgsl_members.specs.Serving.{Unplaced, Tables, tables, members_in, Bounds, Kept, PlacedIn}
use Rattle.wgsl_members.specs.declared.Attributes.{Attributes}
use Rattle.wgsl_members.specs.declared.Body.{Body}

-- ---- one attribute
pub attributes_step : (turns turn : ℕ) (a : Attributes) (ts : List Token) → turn < turns
    → attributes_of (turns - turn) a ts
    ≡ after_at (expect 64 ts) (read (record { given = a; rest = ts })) (λ ts. and_then (attribute_of a ts) (λ b. attributes_of (turns - (turn + 1)) b.given b.rest))
unfolding attributes_of
attributes_step turns turn a ts h = let one : turns - turn ≡ suc (turns - (turn + 1)) = omega arith in ap (λ (k : ℕ). attributes_of k a ts) one

-- ---- the type of a member: it has closed, or the member is refused
abbrev pub MemberType : List ℕ → (room before : ℕ) → (was is : List ℕ) → Closing → Attributes → Result Closed Refusal → Type 0
MemberType s room before was is c a (Ok x) = TypeRead s room before was is c (Ok x)
MemberType s room before was is c a (Err r) = (rooms : Rooms) (m : Members) (name : List ℕ) → placed rooms m a name c ≡ refused (number_of r.fault)

fits_first : (b : Bool) → demand {A = Members} b 33 (refused 1) ≡ refused (pick b 1 33)
fits_first true = refl
fits_first false = refl

pub member_type : (s : List ℕ) (room made : ℕ) (was is : List ℕ) (c : Closing) (a : Attributes) (said : Unclosed → Refusal → Type 0)
    → ((e : Unclosed) (r : Refusal) → said e r → Unplaced a e r) → (x : Result Closed Unclosed) (y : Result Closed Refusal)
    → MatchResult x (λ v. y ≡ Ok v) (λ e. IsErrAnd y (λ r. said e r)) → TypeRead s room made was is c x → MemberType s room made was is c a y
member_type s room made was is c a said tells (Ok v) y m t = rw m t
member_type s room made was is c a said tells (Err (Refused q)) (Err r) m t = let u = tells (Refused q) r m in λ rooms ms name. rw (t, u) refl
member_type s room made was is c a said tells (Err (Full e close)) (Err r) m t = let u = tells (Full e close) r m in λ rooms ms name. rw (t, u) (fits_first _)
member_type s room made was is c a said tells (Err e) (Ok v) m t = absurd m

-- ---- a member in its place
module _ (s words : List ℕ) (names : List Span) (members : List ℕ) (b : Body) (a : Attributes) (e : Shape) (types : ℕ) (name : Span) (at : ℕ) where
  abbrev pub offset : ℕ
  offset = round_up (align_of_member a e) b.end

  abbrev pub placed_body : Body
  placed_body =
      record {
        names = b.names + 1;
        end = offset + size_of_member a e;
        align = max b.align (align_of_member a e);
        fixed = b.fixed && e.fixed;
        made = record { types = types; members = b.made.members + 1 };
        at = at;
      }

  pub place_is : b.names < length names → b.made.members * member_words + member_words ≤ length members
      → members_in s (tables (set names b.names name) words (with_part member_words members (b.made.members * member_words) (e.number ∷ min offset most ∷ 0 ∷ 0 ∷ []))) placed_body
      ≡ with_member (members_in s (tables names words members) b) a (name_in s name.start name.end) e (records_in type_words words types) (from s at)
  unfolding with_member
  place_is named room =
      rw (
        take_more_set names b.names name named,
        one_name s (take b.names names) name,
        one_record member_words members (e.number ∷ min offset most ∷ 0 ∷ 0 ∷ []) b.made.members refl room,
      )

-- ---- a member that is read: its bounds, what is kept, and the reading
module _ (s : List ℕ) (r : Rooms) (was is : Tables) (b after : Body) (a : Attributes) (e : Shape) (made : ℕ) (name : Span) (at : ℕ)
    (bounds : Bounds r was b) (more : b.made.types ≤ made) (within : made ≤ r.types) (behind : drop (made * type_words) is.types ≡ drop (made * type_words) was.types)
    (long-types : length is.types ≡ length was.types) (long-names : length is.names ≡ length was.names) (long-members : length is.members ≡ length was.members)
    (room : b.made.members < r.members)
    (placed : PlacedIn was.names is.names was.members is.members b a e made name at after) where
  pub placed_bounds : Bounds r is after
  placed_bounds =
      let t = bounds.types in
      record {
        types = (omega (arith, placed.types_made), t.1, omega (arith, t.2));
        made = omega (arith, placed.members_made);
        room = bounds.room;
        words = omega (arith, bounds.words);
        fewer = omega (arith, placed.members_made, placed.named, bounds.fewer);
        named = omega (arith, bounds.named);
        end = placed.end_within;
      }

  pub placed_kept : Kept was is b after
  placed_kept =
      record {
        more-types = omega (arith, placed.types_made);
        types = rw placed.types_made behind;
        more-members = omega (arith, placed.members_made);
        members = placed.behind;
      }

  pub placed_read : with_member (members_in s was b) a (name_in s name.start name.end) e (records_in type_words is.types made) (from s at) ≡ members_in s is after
  unfolding with_member
  placed_read = sym (placed.is s is.types)
