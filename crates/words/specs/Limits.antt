-- What a text may hold. "The limit itself passes; one more is refused."
use Rattle.forest.specs.Limits.{most_nesting, response_bytes, response_words, script_bytes, script_words}
use Rattle.words.specs.declared.Limits.{Limits}

-- "Allow 65,536 bytes and 8,192 words of script" (E10), "brackets counted; .. nesting 64"
abbrev pub script_limits : Limits
script_limits = record { bytes = script_bytes; words = script_words; nesting = most_nesting }

-- "response 8,192 and 2,048; nesting 64"
abbrev pub response_limits : Limits
response_limits = record { bytes = response_bytes; words = response_words; nesting = most_nesting }
