-- The tokens as the code has them.
use Rattle.nc_message.specs.Tokens as tokens
use Rattle.nc_message_read.specs.declared.written.Token.{Token}
use Rattle.nc_message_read.specs.declared.written.Token.TheVariants.{Start, End, Run, Section, Comment, Instruction, Declaration}

-- the token that one of the code stands for
abbrev pub token_of : Token → tokens.Token
token_of (Start tag) = tokens.Start tag
token_of (End name) = tokens.End name
token_of (Run span) = tokens.Run span
token_of (Section span) = tokens.Section span
token_of (Comment span) = tokens.Comment span
token_of (Instruction span) = tokens.Instruction span
token_of Declaration = tokens.Declaration
