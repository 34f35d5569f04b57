-- The octets of an answer (RFC 9112, 2.1).
use Rattle.std.specs.Prelude.{ℕ, Bool, List, [], ◌∷◌, ◌++◌, codes, if◌then◌else◌, length}
use Rattle.std.specs.Fmt.{decimal}
use Rattle.run_http.specs.declared.request.Resource.{Resource}
use Rattle.run_http.specs.declared.request.Resource.TheVariants.{Alive, Health, Metrics, Page, Points, PointsCsv, PointsJson}
use Rattle.run_http.specs.declared.request.RequestFault.{RequestFault}
use Rattle.run_http.specs.declared.request.RequestFault.TheVariants.{Busy, Malformed, NotAllowed, NotFound, OddQuery, TooLong}

-- the end of a line
abbrev pub line_end : List ℕ
line_end = 13 ∷ 10 ∷ []

-- what is sent of a body: to a HEAD nothing
abbrev pub sent_of : List ℕ → Bool → List ℕ
sent_of body is_head = if is_head then [] else body

-- an answer of this status and content, with further fields
abbrev pub message : (status content fields body : List ℕ) → Bool → List ℕ
message status content fields body is_head =
    codes "HTTP/1.1 " ++ (status ++ (line_end
    ++ (codes "Content-Type: " ++ (content ++ (line_end
    ++ (codes "Content-Length: " ++ (decimal (length body) ++ (line_end
    ++ (codes "Cache-Control: no-store" ++ (line_end
    ++ (fields
    ++ (codes "Connection: close" ++ (line_end
    ++ (line_end
    ++ sent_of body is_head))))))))))))))

-- the content type of what is asked for
abbrev pub content_of : Resource → List ℕ
content_of Page = codes "text/html; charset=utf-8"
content_of Metrics = codes "text/plain; version=0.0.4; charset=utf-8"
content_of Alive = codes "text/plain; charset=utf-8"
content_of Health = codes "text/plain; charset=utf-8"
content_of Points = codes "text/html; charset=utf-8"
content_of PointsCsv = codes "text/csv; charset=utf-8"
content_of PointsJson = codes "application/json"

-- the status code of an answer, with its words: by whether what is asked about is well
abbrev pub outcome_of : Bool → List ℕ
outcome_of is_well = if is_well then codes "200 OK" else codes "503 Service Unavailable"

-- the status code of a refusal, with its words
abbrev pub line_of : RequestFault → List ℕ
line_of Malformed = codes "400 Bad Request"
line_of NotFound = codes "404 Not Found"
line_of NotAllowed = codes "405 Method Not Allowed"
line_of OddQuery = codes "400 Query Not Known"
line_of Busy = codes "503 Service Unavailable"
line_of TooLong = codes "431 Request Header Fields Too Large"

-- the fields that a refusal has alone
abbrev pub fields_of : RequestFault → List ℕ
fields_of NotAllowed = codes "Allow: GET, HEAD" ++ line_end
fields_of Busy = codes "Retry-After: 1" ++ line_end
fields_of _ = []

-- the octets of a refusal
abbrev pub refused_by : RequestFault → Bool → List ℕ
refused_by refusal is_head =
    message (line_of refusal) (codes "text/plain; charset=utf-8") (fields_of refusal)
    (line_of refusal ++ 10 ∷ []) is_head
