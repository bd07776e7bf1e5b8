-- What is said of a WGSL text that is refused.
-- Assumes nothing.
use Rattle.std.specs.Prelude.{List, [], ◌∷◌, ◌++◌, Option, Some, None, Result, Ok, Err, ℕ, ◌-◌, min, eqb, ltb, length, take, drop}
use Rattle.ir_records.specs.Result.{pick}
use Rattle.program_output.specs.Bytes.{ascii, named}
use Rattle.wgsl_grammar.specs.declared.Problem.{Problem}
use Rattle.wgsl_grammar.specs.declared.Problem.TheVariants.{OpenComment, NotAscii, NoComma, NoName, NoNumber, NoDeclaration, NoAttribute, NoScalar, TooDeep, UnknownType, RepeatedType, RepeatedMember, LargeNumber, ZeroCount, LargeArray, Align, Size, LargeStruct, TypesFull, MembersFull}
use Rattle.wgsl_grammar.specs.declared.Why.{Why}
use Rattle.wgsl_grammar.specs.declared.Why.TheVariants.{Mark, Other}
use Rattle.wgsl_tokens.specs.declared.Lexed.{Lexed}
use Rattle.wgsl_tokens.specs.Lexed.{end_of}
use Rattle.wgsl_tokens.specs.declared.BadToken.{BadToken}
use Rattle.wgsl_messages.specs.Position.{line_of, column_of}

-- what is said of a problem
unfoldable pub sentence : Problem → List ℕ
sentence OpenComment = ascii "a comment is not closed\n"
sentence NotAscii = ascii "a comment holds a byte that is no ASCII\n"
sentence NoComma = ascii "expected a comma or a closing mark\n"
sentence NoName = ascii "expected a name that is no keyword\n"
sentence NoNumber = ascii "expected a decimal number with no leading zero, point or suffix\n"
sentence NoDeclaration = ascii "expected struct, a semicolon or the end of the text\n"
sentence NoAttribute = ascii "no such attribute; there are @align and @size\n"
sentence NoScalar = ascii "expected bool, i32, u32, f32 or f16\n"
sentence TooDeep = ascii "types stand inside types more than 32 deep\n"
sentence UnknownType = ascii "no earlier type has this name\n"
sentence RepeatedType = ascii "an earlier type has this name\n"
sentence RepeatedMember = ascii "an earlier member of the struct has this name\n"
sentence LargeNumber = ascii "the number is above 4294967295\n"
sentence ZeroCount = ascii "an array has one element at least\n"
sentence LargeArray = ascii "the array has more than 4294967295 bytes\n"
sentence Align = ascii "@align stands twice, is no power of two or is no multiple of the type's alignment\n"
sentence Size = ascii "@size stands twice, is less than the type's size or the type has no fixed size\n"
sentence LargeStruct = ascii "the struct has more than 4294967295 bytes\n"
sentence TypesFull = ascii "there is no room for one more type record\n"
sentence MembersFull = ascii "there is no room for one more member record\n"

-- a mark that was expected
unfoldable pub mark_text : (mark : ℕ) → List ℕ
mark_text mark = pick (eqb mark 44) (sentence NoComma) (ascii "expected `" ++ (mark ∷ []) ++ ascii "`\n")

-- what was wrong
abbrev pub reason_text : Why → List ℕ
reason_text (Mark mark) = mark_text mark
reason_text (Other problem) = sentence problem

-- where a byte stands; past the end of the text, where that ends
unfoldable pub position_text : List ℕ → (byte : ℕ) → List ℕ
position_text text byte =
    named (ascii "line") (line_of text (min byte (length text))) ++ named (ascii ", column") (column_of text (min byte (length text))) ++ ascii ": "

-- a token in its own bytes
unfoldable pub token_text : List ℕ → (start end : ℕ) → List ℕ
token_text text start end =
    pick (ltb end start) [] (pick (ltb (length text) end) [] ((96 ∷ []) ++ take (end - start) (drop start text) ++ ascii "`: "))

abbrev pub found_text : List ℕ → (start : ℕ) → Result (Option Lexed) BadToken → List ℕ
found_text text start (Ok (Some token)) = token_text text start (end_of token)
found_text text start (Ok None) = ascii "the end of the text: "
found_text text start (Err bad) = ascii "no word, number or mark: "

-- a comment that is no text of WGSL: a byte that is no ASCII, or no end
abbrev pub broken_text : List ℕ → (byte : ℕ) → List ℕ
broken_text text byte = position_text text byte ++ pick (ltb byte (length text)) (sentence NotAscii) (sentence OpenComment)

-- the place, what stands there, and what is wrong
abbrev pub message_text : List ℕ → Why → (start : ℕ) → Result (Option Lexed) BadToken → List ℕ
message_text text why start token = position_text text start ++ found_text text start token ++ reason_text why
